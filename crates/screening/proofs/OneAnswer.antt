-- Each contract leaves one answer.
use seplogic.Ra.Ura.{Ura}
use base.Logic.{SProp}
use prog.Memory.{Memory}
use prog.Routine.{Routine}
use types.Logic.{Logic}
use contract.Monad.{Fun}
use Rattle.terms.proofs.OneAnswer.{OneAnswer, agree}
use Rattle.screening.specs.contracts.plain_end
use Rattle.screening.specs.contracts.offence_of
use Rattle.screening.specs.contracts.detect_invalid_input

module _ {M : Type 1} {𝓤 : Ura M} (𝓛 : Logic 𝓤) (mem : Memory → SProp 𝓤) (run : Routine → Fun 𝓤) where
  pub plain_end_one : OneAnswer 𝓤 plain_end.ended (plain_end.clauses 𝓛 mem run)
  plain_end_one κs a g z z' e e' = agree 𝓤

  pub offence_of_one : OneAnswer 𝓤 offence_of.ended (offence_of.clauses 𝓛 mem run)
  offence_of_one κs a g z z' e e' = agree 𝓤

  pub detect_invalid_input_one : OneAnswer 𝓤 detect_invalid_input.ended (detect_invalid_input.clauses 𝓛 mem run)
  detect_invalid_input_one κs a g z z' e e' = agree 𝓤

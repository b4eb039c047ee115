-- The contract leaves one answer.
use seplogic.Ra.Ura.{Ura}
use base.Logic.{SProp}
use prog.Memory.{Memory}
use prog.Routine.{Routine}
use types.Logic.{Logic}
use contract.Monad.{Fun}
use Rattle.terms.proofs.OneAnswer.{OneAnswer, agree}
use Rattle.parts.specs.contracts.parts.check_parts

module _ {M : Type 1} {𝓤 : Ura M} (𝓛 : Logic 𝓤) (mem : Memory → SProp 𝓤) (run : Routine → Fun 𝓤) where
  pub check_parts_one : OneAnswer 𝓤 check_parts.ended (check_parts.clauses 𝓛 mem run)
  check_parts_one κs a g z z' e e' = agree 𝓤

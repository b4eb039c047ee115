-- Each contract of this room leaves one answer.
use seplogic.Ra.Ura.{Ura}
use base.Logic.{SProp}
use prog.Memory.{Memory}
use prog.Routine.{Routine}
use types.Logic.{Logic}
use contract.Monad.{Fun}
use Rattle.terms.proofs.OneAnswer.{OneAnswer, agree}
use Rattle.terms.specs.contracts.within
use Rattle.terms.specs.contracts.least
use Rattle.terms.specs.contracts.same

module _ {M : Type 1} {𝓤 : Ura M} (𝓛 : Logic 𝓤) (mem : Memory → SProp 𝓤) (run : Routine → Fun 𝓤) where
  pub within_one : OneAnswer 𝓤 within.ended (within.clauses 𝓛 mem run)
  within_one κs a g z z' e e' = agree 𝓤

  pub least_one : OneAnswer 𝓤 least.ended (least.clauses 𝓛 mem run)
  least_one κs a g z z' e e' = agree 𝓤

  pub same_one : OneAnswer 𝓤 same.ended (same.clauses 𝓛 mem run)
  same_one κs a g z z' e e' = agree 𝓤

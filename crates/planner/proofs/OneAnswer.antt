-- Each contract leaves one answer, and that of `propose` one content of the slice.
use Prim.Native.Nat.{ℕ}
use mathlib.Core.List.{List}
use seplogic.Ra.Ura.{Ura}
use base.Logic.{SProp}
use prog.Memory.{Memory}
use prog.Routine.{Routine}
use types.Logic.{Logic}
use contract.Monad.{Fun}
use Rattle.terms.proofs.OneAnswer.{OneAnswer, OneOutcome, agree}
use Rattle.clerk.specs.declared.Sorted.{Sorted}
use Rattle.planner.specs.contracts.check_order
use Rattle.planner.specs.contracts.propose

module _ {M : Type 1} {𝓤 : Ura M} (𝓛 : Logic 𝓤) (mem : Memory → SProp 𝓤) (run : Routine → Fun 𝓤) where
  pub check_order_one : OneAnswer 𝓤 check_order.ended (check_order.clauses 𝓛 mem run)
  check_order_one κs a g z z' e e' = agree 𝓤

  pub propose_one : OneOutcome 𝓤 propose.ended (λ κs. Sorted × List ℕ) (λ κs z e. (z, e.1.1.0.now)) (propose.clauses 𝓛 mem run)
  propose_one κs a g z z' e e' = agree 𝓤

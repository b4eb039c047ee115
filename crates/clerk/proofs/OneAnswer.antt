-- The contract leaves one answer and one content of the order slice.
use Prim.Native.Nat.{ℕ}
use mathlib.Core.List.{List}
use seplogic.Ra.Ura.{Ura}
use base.Logic.{SProp}
use prog.Memory.{Memory}
use prog.Routine.{Routine}
use types.Logic.{Logic}
use contract.Monad.{Fun}
use Rattle.terms.proofs.OneAnswer.{OneOutcome, agree}
use Rattle.clerk.specs.declared.Sorted.{Sorted}
use Rattle.clerk.specs.contracts.toposort

module _ {M : Type 1} {𝓤 : Ura M} (𝓛 : Logic 𝓤) (mem : Memory → SProp 𝓤) (run : Routine → Fun 𝓤) where
  pub toposort_one : OneOutcome 𝓤 toposort.ended (λ κs. Sorted × List ℕ) (λ κs z e. (z, e.1.1.0.now)) (toposort.clauses 𝓛 mem run)
  toposort_one κs a g z z' e e' = agree 𝓤

-- Each contract leaves one answer and one content of what is lent.
use Prim.Native.Nat.{ℕ}
use mathlib.Core.List.{List}
use seplogic.Ra.Ura.{Ura}
use base.Logic.{SProp}
use prog.Memory.{Memory}
use prog.Routine.{Routine}
use types.Logic.{Logic}
use contract.Monad.{Fun}
use Rattle.terms.proofs.OneAnswer.{OneOutcome, agree}
use Rattle.listing.specs.Listings.{Listed}
use Rattle.listing.specs.contracts.list

module _ {M : Type 1} {𝓤 : Ura M} (𝓛 : Logic 𝓤) (mem : Memory → SProp 𝓤) (run : Routine → Fun 𝓤) where
  pub list_one : OneOutcome 𝓤 list.ended (λ κs. Listed × List ℕ) (λ κs z e. (z, e.1.1.1.0.now)) (list.clauses 𝓛 mem run)
  list_one κs a g z z' e e' = agree 𝓤

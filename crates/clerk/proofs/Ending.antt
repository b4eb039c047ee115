-- From the state that `run` leaves to the answer.
use Rattle.std.specs.Prelude.{Err}
use Prim.Native.Nat.{ℕ, suc, ◌+◌, ◌<◌}
use mathlib.Core.Path.{◌≡◌, sym, ap, ◌∙◌}
use mathlib.Core.List.{List, ◌++◌}
use native.Mathlib.Numerals.{add-one}
use native.Mathlib.Omega.{arith}
use lib.ListN.{length, get_or, set, take, drop}
use lib.Seq.{drop-cons, set_at, take-suc, append_snoc, length-take-le}
use borrow.Author.Tests.{eq-eqb, ne_eqb}
use Rattle.terms.specs.Terms.{over}
use Rattle.answers.specs.Caps.{accepted}
use Rattle.answers.specs.declared.Refusal.TheVariants.{TypeCycle}
use Rattle.graph.specs.Order.{Edge, order, settled, first_stuck}
use Rattle.graph.proofs.Acyclic.{stuck_is_listed}
use Rattle.clerk.specs.declared.State.{State}
use Rattle.clerk.specs.declared.Sorted.{Sorted}
use Rattle.clerk.specs.Sorted.{answer, placed}
use Rattle.clerk.specs.inner.State.{placed_of, Ran}

-- one more word of a copy to the front
pub copy_more : (d s : List ℕ) (i : ℕ) → i < length d → i < length s → set (take i s ++ drop i d) i (get_or s i 0) ≡ take (i + 1) s ++ drop (i + 1) d
copy_more d s i a b =
    rw (add-one, drop-cons d i 0, set_at (take i s) (get_or d i 0) (drop (suc i) d) (get_or s i 0) i (length-take-le i s (omega arith)), take-suc s i 0)
    (sym (append_snoc (take i s) (get_or s i 0) (drop (suc i) d)))

module _ (es : List Edge) (n : ℕ) (s : State) (r : Ran es n s) where
  counted : s.settled ≡ settled es (order es n)
  counted = r.tracks.counted ∙ ap (settled es) r.ordered

  pub ends_ordered : (out out' : List ℕ) → s.placed ≡ n → out' ≡ over (placed_of s) out
      → ◌≡◌ {A = Sorted × List ℕ} (answer accepted s.settled, out') (placed es n out)
  unfolding placed
  ends_ordered out out' e q = rw (eq-eqb _ _ (sym r.many ∙ e), counted, q, r.ordered)

  pub ends_stuck : (out : List ℕ) → (s.placed ≡ n → ⊥) → (k : ℕ) → k ≡ first_stuck es (placed_of s)
      → ◌≡◌ {A = Sorted × List ℕ} (answer (Err (TypeCycle k)) s.settled, out) (placed es n out)
  unfolding placed
  ends_stuck out e k q = rw (ne_eqb (length (order es n)) n (λ p. e (r.many ∙ p)), counted, q, r.ordered)

  -- where some item is not placed, an edge is stuck
  pub stuck_found : (s.placed ≡ n → ⊥) → first_stuck es (placed_of s) < length es
  stuck_found e = rw r.ordered (stuck_is_listed es n (λ p. e (r.many ∙ p)))

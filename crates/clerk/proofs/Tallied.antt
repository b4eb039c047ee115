-- The loop of `start`, on plain lists: l has the counts of the first k edges.
use Prim.Native.Nat.{ℕ, ◌+◌, ◌≤◌, ◌<◌}
use mathlib.Core.Path.{◌≡◌, refl, sym, ◌∙◌}
use mathlib.Core.Bool.{Bool, true, false, and-true}
use mathlib.Core.List.{List, [], ◌∷◌}
use native.Mathlib.Omega.{arith}
use lib.ListN.{length, get_or, set, drop, length-set}
use lib.Seq.{get_or-set_same, get_or-set_other}
use lib.Dec.{eqb}
use borrow.Author.Tests.{eqb-true, eqb-false}
use Rattle.terms.specs.Terms.{bit, count, member}
use Rattle.terms.proofs.CountLaws.{count_at, count_end, count_le}
use Rattle.graph.specs.Order.{Edge, no_edge, waits, unmet, settled}
use Rattle.clerk.specs.declared.State.{State}
use Rattle.clerk.specs.inner.State.{Tracks, Blank}

pub record Tallied (es : List Edge) (l : List ℕ) (k : ℕ) : Type 0 where
  pub counts : (i : ℕ) → i < 256 → get_or l i 0 + unmet (drop k es) [] i ≡ unmet es [] i
  pub size : length l ≡ 256

pub tallied_start : (es : List Edge) (s : State) → Blank s → Tallied es s.left 0
tallied_start es s b = record {
  counts = λ i h. omega (arith, b.none_left i h);
  size = b.long;
}

module _ (es : List Edge) (l : List ℕ) (k : ℕ) (τ : Tallied es l k) (o t : ℕ) (kl : k < length es) (at : get_or es k no_edge ≡ record { item = o; target = t }) (ol : o < 256) where
  counted : (i : ℕ) → unmet (drop k es) [] i ≡ bit (eqb o i) + unmet (drop (k + 1) es) [] i
  unfolding member
  counted i = count_at (waits [] i) es k no_edge kl ∙ rw (at, and-true (eqb o i))

  pub tallied_small : get_or l o 0 ≤ length es
  tallied_small = omega (arith, τ.counts o ol, count_le (waits [] o) es)

  pub tallied_more : Tallied es (set l o (get_or l o 0 + 1)) (k + 1)
  tallied_more = record { counts = λ i h. go i h (eqb o i) refl; size = length-set l o _ ∙ τ.size }
    where
      go : (i : ℕ) → i < 256 → (b : Bool) → eqb o i ≡ b → get_or (set l o (get_or l o 0 + 1)) i 0 + unmet (drop (k + 1) es) [] i ≡ unmet es [] i
      go i h true q =
          let b : bit (eqb o i) ≡ 1 = rw q in
          let g : get_or (set l o (get_or l o 0 + 1)) i 0 ≡ get_or l i 0 + 1 = rw (← eqb-true o i q, get_or-set_same l o (get_or l o 0 + 1) 0 (omega (arith, τ.size))) in
          omega (arith, τ.counts i h, counted i)
      go i h false q =
          let b : bit (eqb o i) ≡ 0 = rw q in
          let g : get_or (set l o (get_or l o 0 + 1)) i 0 ≡ get_or l i 0 = get_or-set_other l o i (get_or l o 0 + 1) 0 (λ r. eqb-false o i q (sym r)) in
          omega (arith, τ.counts i h, counted i)

-- no edge is settled while nothing is placed
none_settled : (es : List Edge) → settled es [] ≡ 0
unfolding member count
none_settled [] = refl
none_settled (e ∷ es) = omega (arith, none_settled es)

pub tracks_of : (es : List Edge) (s : State) (k : ℕ) → length es ≤ 2048 → Tallied es s.left k → length es ≤ k → s.placed ≡ 0 → s.settled ≡ 0 → Tracks es s
unfolding member
tracks_of es s k few τ end placed none = record {
  left = λ i h. rw placed (omega (arith, τ.counts i h, count_end (waits [] i) es k end));
  counted = rw (placed, none) (sym (none_settled es));
  room = omega arith;
  few = few;
}

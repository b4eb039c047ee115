-- Ranges that pass the test: what it says at each range, and that nothing below the first or above U+10FFFF is a member. Both lists of Unicode pass.
use Prim.Native.Nat.{ℕ, ◌+◌, ◌≤◌, ◌<◌}
use mathlib.Core.Path.{◌≡◌, refl}
use mathlib.Core.Bool.{true, false, ◌&&◌}
use mathlib.Core.List.{List, [], ◌∷◌}
use native.Mathlib.Omega.{arith}
use lib.Dec.{leb}
use borrow.Author.Tests.{leb-true}
use Rattle.terms.proofs.TestLaws.{and_both, within_below, within_above}
use Rattle.classes.specs.Ranges.{member, ordered_from, ordered}
use Rattle.classes.specs.XidStart.{xid_starts}
use Rattle.classes.specs.XidContinue.{xid_continues}
use Rattle.classes.specs.Classes.{xid_start, xid_continue}

-- what the test says at a range
pub record Step (b first last : ℕ) (rs : List (ℕ × ℕ)) : Type 0 where
  pub from : b ≤ first
  pub ascends : first ≤ last
  pub inside : last ≤ 0x10FFFF
  pub rest : ordered_from (last + 2) rs ≡ true

pub step : (b first last : ℕ) (rs : List (ℕ × ℕ)) → ordered_from b ((first, last) ∷ rs) ≡ true → Step b first last rs
unfolding ordered_from
step b first last rs t =
    let t₁ = and_both (leb b first) (leb first last && (leb last 0x10FFFF && ordered_from (last + 2) rs)) t in
    let t₂ = and_both (leb first last) (leb last 0x10FFFF && ordered_from (last + 2) rs) t₁.1 in
    let t₃ = and_both (leb last 0x10FFFF) (ordered_from (last + 2) rs) t₂.1 in
    record { from = leb-true _ _ t₁.0; ascends = leb-true _ _ t₂.0; inside = leb-true _ _ t₃.0; rest = t₃.1 }

-- nothing below the first range is a member
pub below : (b : ℕ) (rs : List (ℕ × ℕ)) (c : ℕ) → ordered_from b rs ≡ true → c < b → member rs c ≡ false
unfolding member
below b [] c t h = refl
below b (r ∷ rs) c t h =
    let s = step b r.0 r.1 rs t in
    rw (within_below r.0 r.1 c (omega arith)) (below (r.1 + 2) rs c s.rest (omega arith))

-- nothing above U+10FFFF is a member
pub beyond : (b : ℕ) (rs : List (ℕ × ℕ)) (c : ℕ) → ordered_from b rs ≡ true → 0x10FFFF < c → member rs c ≡ false
unfolding member
beyond b [] c t h = refl
beyond b (r ∷ rs) c t h =
    let s = step b r.0 r.1 rs t in
    rw (within_above r.0 r.1 c (omega arith)) (beyond (r.1 + 2) rs c s.rest h)

-- THE TEST, computed once over each list
pub starts_ordered : ordered xid_starts ≡ true
unfolding ordered ordered_from xid_starts
starts_ordered = refl

pub continues_ordered : ordered xid_continues ≡ true
unfolding ordered ordered_from xid_continues
continues_ordered = refl

-- so nothing above U+10FFFF is of either class
pub start_beyond : (c : ℕ) → 0x10FFFF < c → xid_start c ≡ false
unfolding xid_start ordered
start_beyond c h = beyond 0 xid_starts c starts_ordered h

pub continue_beyond : (c : ℕ) → 0x10FFFF < c → xid_continue c ≡ false
unfolding xid_continue ordered
continue_beyond c h = beyond 0 xid_continues c continues_ordered h

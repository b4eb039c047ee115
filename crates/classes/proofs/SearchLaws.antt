-- What a search over ranges that pass the test needs of them, and what its end says of membership.
use Prim.Native.Nat.{ℕ, zero, suc, ◌+◌, ◌≤◌, ◌<◌, zero-le, suc-le-suc}
use mathlib.Core.Path.{◌≡◌, refl, ap, ◌∙◌}
use mathlib.Core.Bool.{Bool, true, false, ◌&&◌, ◌||◌}
use mathlib.Core.List.{List, [], ◌∷◌}
use native.Mathlib.Nat.{le_of_suc-le-suc, not-suc-le-zero, le_refl, lt_of_lt_of_le}
use native.Mathlib.Omega.{arith}
use lib.Dec.{leb, ltb}
use lib.ListN.{length, get_or}
use borrow.Author.Tests.{le-leb, ltb-true, ltb-false}
use denote.Ref.{Bor}
use Rattle.std.specs.Prelude.{Option, None, Some, MatchOption}
use Rattle.std.specs.List.{HoldsAt}
use Rattle.std.specs.List.Sorted.{IsPartitionPoint}
use Rattle.terms.specs.Terms.{within}
use Rattle.terms.proofs.TestLaws.{within_above}
use Rattle.classes.specs.Ranges.{member, ordered_from, ordered}
use Rattle.classes.proofs.RangeLaws.{step, below}

-- each range ends at b or later
above : (b : ℕ) (rs : List (ℕ × ℕ)) → ordered_from b rs ≡ true → (q : ℕ) (d : ℕ × ℕ) → q < length rs → b ≤ (get_or rs q d).1
above b [] t q d l = absurd (not-suc-le-zero l)
above b (r ∷ rs) t zero d l = let s = step b r.0 r.1 rs t in omega arith
above b (r ∷ rs) t (suc q) d l =
    let s = step b r.0 r.1 rs t in
    let h = above (r.1 + 2) rs s.rest q d (le_of_suc-le-suc l) in omega arith

-- the last code points ascend
ascends : (b : ℕ) (rs : List (ℕ × ℕ)) → ordered_from b rs ≡ true → (p q : ℕ) (d : ℕ × ℕ) → p ≤ q → q < length rs → (get_or rs p d).1 ≤ (get_or rs q d).1
ascends b [] t p q d h l = absurd (not-suc-le-zero l)
ascends b (r ∷ rs) t zero zero d h l = le_refl r.1
ascends b (r ∷ rs) t zero (suc q) d h l =
    let s = step b r.0 r.1 rs t in
    let k = above (r.1 + 2) rs s.rest q d (le_of_suc-le-suc l) in omega arith
ascends b (r ∷ rs) t (suc p) zero d h l = absurd (not-suc-le-zero h)
ascends b (r ∷ rs) t (suc p) (suc q) d h l =
    ascends (r.1 + 2) rs (step b r.0 r.1 rs t).rest p q d (le_of_suc-le-suc h) (le_of_suc-le-suc l)

-- k is the first range that ends at c or later
finds : (b : ℕ) (rs : List (ℕ × ℕ)) → ordered_from b rs ≡ true → (c k : ℕ) (d : ℕ × ℕ) → k < length rs
    → ((j : ℕ) → j < k → (get_or rs j d).1 < c) → c ≤ (get_or rs k d).1 → leb (get_or rs k d).0 c ≡ member rs c
unfolding member within
finds b [] t c k d l low h = absurd (not-suc-le-zero l)
finds b (r ∷ rs) t c zero d l low h =
    let s = step b r.0 r.1 rs t in
    rw (le-leb c r.1 h, below (r.1 + 2) rs c s.rest (omega arith)) (alone (leb r.0 c))
  where
    alone : (t : Bool) → t ≡ ((t && true) || false)
    alone true = refl
    alone false = refl
finds b (r ∷ rs) t c (suc k) d l low h =
    let s = step b r.0 r.1 rs t in
    rw (within_above r.0 r.1 c (low 0 (suc-le-suc zero-le)))
    (finds (r.1 + 2) rs s.rest c k d (le_of_suc-le-suc l) (λ j g. low (suc j) (suc-le-suc g)) h)

-- each range ends before c
pub missing : (rs : List (ℕ × ℕ)) (c : ℕ) (d : ℕ × ℕ) → ((j : ℕ) → j < length rs → (get_or rs j d).1 < c) → false ≡ member rs c
unfolding member
missing [] c d low = refl
missing (r ∷ rs) c d low =
    rw (within_above r.0 r.1 c (low 0 (suc-le-suc zero-le))) (missing rs c d (λ j g. low (suc j) (suc-le-suc g)))

-- the same of ranges that pass the test from the start
module _ (rs : List (ℕ × ℕ)) (t : ordered rs ≡ true) where
  pub lasts_ascend : (p q : ℕ) (d : ℕ × ℕ) → p ≤ q → q < length rs → (get_or rs p d).1 ≤ (get_or rs q d).1
  unfolding ordered
  lasts_ascend = ascends 0 rs t

  pub found : (c k : ℕ) (d : ℕ × ℕ) → k < length rs → ((j : ℕ) → j < k → (get_or rs j d).1 < c) → c ≤ (get_or rs k d).1 → leb (get_or rs k d).0 c ≡ member rs c
  unfolding ordered
  found = finds 0 rs t

-- what the range where a search points answers, or that there is none
module _ (rs : List (ℕ × ℕ)) (t : ordered rs ≡ true) (c i : ℕ) where
  pub pointed : (o : Option (Bor (ℕ × ℕ))) (r : Bool) (P : Bor (ℕ × ℕ) → Type 0) → IsPartitionPoint (λ y. ltb y.1 c ≡ true) (λ y. ltb y.1 c ≡ false) rs i
      → MatchOption o (length rs ≤ i) (λ x. (i < length rs) × HoldsAt (λ y. x.now ≡ y) rs i) → MatchOption o (r ≡ false) P
      → ((x : Bor (ℕ × ℕ)) → P x → r ≡ leb x.now.0 c) → r ≡ member rs c
  pointed None r P h g e f = e ∙ missing rs c (0, 0) (λ j l. ltb-true _ _ (h.0 j (0, 0) zero-le (lt_of_lt_of_le l g)))
  pointed (Some x) r P h g e f =
      f x e ∙ ap (λ (y : ℕ × ℕ). leb y.0 c) (g.1 x.now)
      ∙ found rs t c i x.now g.0 (λ j l. ltb-true _ _ (h.0 j x.now zero-le l)) (ltb-false _ _ (h.1 i x.now (le_refl i) g.0))

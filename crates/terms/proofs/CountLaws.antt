-- What a loop that counts needs of `count`, and what a count or a membership says.
use Prim.Native.Nat.{ℕ, zero, suc, ◌+◌, ◌≤◌, ◌<◌}
use mathlib.Core.Path.{◌≡◌, refl, sym}
use mathlib.Core.Bool.{Bool, true, false, ◌||◌, or-true, or-false, or_assoc, false≢true}
use mathlib.Core.List.Memᴰ
use mathlib.Core.List.{List, [], ◌∷◌, ◌++◌, Memᴰ}
use mathlib.Core.Logic.{◌⊎◌, inl, inr}
use native.Mathlib.Numerals.{add-one}
use native.Mathlib.Omega.{arith}
use lib.ListN.{length, get_or, take, drop, drop_of_length-le}
use lib.Seq.{drop-cons}
use lib.Dec.{eqb}
use borrow.Author.Tests.{eq-eqb, eqb-true}
use Rattle.terms.specs.Terms.{bit, count, member}

pub bit_le : (b : Bool) → bit b ≤ 1
bit_le true = omega arith
bit_le false = omega arith

module _ {A : Type 0} (test : A → Bool) where
  pub count_cons : (x : A) (xs : List A) → count test (x ∷ xs) ≡ bit (test x) + count test xs
  unfolding count
  count_cons x xs = refl

  pub count_le : (xs : List A) → count test xs ≤ length xs
  unfolding count
  count_le [] = omega arith
  count_le (x ∷ xs) = omega (arith, count_le xs, bit_le (test x))

  -- the entry at k and those after it; and nothing after the end
  pub count_at : (xs : List A) (k : ℕ) (d : A) → k < length xs
      → count test (drop k xs) ≡ bit (test (get_or xs k d)) + count test (drop (k + 1) xs)
  count_at xs k d l = rw (add-one, drop-cons xs k d) (count_cons (get_or xs k d) (drop (suc k) xs))

  pub count_end : (xs : List A) (k : ℕ) → length xs ≤ k → count test (drop k xs) ≡ 0
  unfolding count
  count_end xs k l = rw (drop_of_length-le xs l)

  -- a count of 0 has no entry that passes, and any other count has one
  pub count_none : (xs : List A) → count test xs ≡ 0 → (x : A) → Memᴰ x xs → test x ≡ false
  unfolding count
  count_none [] h x m = absurd (Memᴰ.not-nil m)
  count_none (y ∷ ys) h x m = go (test y) refl h (Memᴰ.cases_cons m) (λ e. count_none ys e x)
    where
      go : (b : Bool) → test y ≡ b → bit b + count test ys ≡ 0 → (x ≡ y) ⊎ Memᴰ x ys
          → (count test ys ≡ 0 → Memᴰ x ys → test x ≡ false) → test x ≡ false
      go true e q w ih = absurd (omega arith)
      go false e q (inl j) ih = rw j e
      go false e q (inr j) ih = ih (omega arith) j

  pub count_some : (xs : List A) → 1 ≤ count test xs → (x : A) × Memᴰ x xs × (test x ≡ true)
  unfolding count
  count_some [] h = absurd (omega arith)
  count_some (y ∷ ys) h = go (test y) refl h (count_some ys)
    where
      go : (b : Bool) → test y ≡ b → 1 ≤ bit b + count test ys
          → (1 ≤ count test ys → (x : A) × Memᴰ x ys × (test x ≡ true)) → (x : A) × Memᴰ x (y ∷ ys) × (test x ≡ true)
      go true e q ih = (y, Memᴰ.head refl, e)
      go false e q ih = let r = ih (omega arith) in (r.0, Memᴰ.tail r.1, r.2)

-- where a test is the sum of two others at each entry, so are the counts
pub count_sum : {A : Type 0} (p q r : A → Bool) (xs : List A) → ((x : A) → bit (p x) ≡ bit (q x) + bit (r x))
    → count p xs ≡ count q xs + count r xs
unfolding count
count_sum p q r [] h = refl
count_sum p q r (x ∷ xs) h = omega (arith, h x, count_sum p q r xs h)

-- one more at the end of a list, counted
pub count_snoc : {A : Type 0} (test : A → Bool) (x : A) (xs : List A) → count test (xs ++ (x ∷ [])) ≡ count test xs + bit (test x)
unfolding count
count_snoc test x [] = omega arith
count_snoc test x (y ∷ ys) = omega (arith, count_snoc test x ys)

-- a count goes over the entries before an index and those from it on
pub count_parts : {A : Type 0} (test : A → Bool) (xs : List A) (k : ℕ) → count test xs ≡ count test (take k xs) + count test (drop k xs)
unfolding count
count_parts test xs zero = omega arith
count_parts test [] (suc k) = refl
count_parts test (x ∷ xs) (suc k) = omega (arith, count_parts test xs k)

-- what stands in a list stands at an index of it, and is counted
pub member_at : (x : ℕ) (xs : List ℕ) → member x xs ≡ true → (j : ℕ) × (j < length xs) × (get_or xs j 0 ≡ x)
unfolding member
member_at x [] m = absurd (false≢true m)
member_at x (y ∷ ys) m = go (eqb x y) refl m (member_at x ys)
  where
    go : (b : Bool) → eqb x y ≡ b → (b || member x ys) ≡ true → (member x ys ≡ true → (j : ℕ) × (j < length ys) × (get_or ys j 0 ≡ x))
        → (j : ℕ) × (j < length (y ∷ ys)) × (get_or (y ∷ ys) j 0 ≡ x)
    go true q h ih = (0, omega arith, sym (eqb-true x y q))
    go false q h ih = let r = ih h in (suc r.0, omega (arith, r.1), r.2)

pub at_member : (xs : List ℕ) (j : ℕ) → j < length xs → member (get_or xs j 0) xs ≡ true
unfolding member
at_member [] j l = absurd (omega arith)
at_member (x ∷ xs) zero l = rw (eq-eqb x x refl)
at_member (x ∷ xs) (suc j) l = rw (at_member xs j (omega arith), or-true (eqb (get_or xs j 0) x))

pub member_counted : (x : ℕ) (xs : List ℕ) → member x xs ≡ true → 1 ≤ count (eqb x) xs
unfolding member count
member_counted x [] m = absurd (false≢true m)
member_counted x (y ∷ ys) m = go (eqb x y) m (member_counted x ys)
  where
    go : (b : Bool) → (b || member x ys) ≡ true → (member x ys ≡ true → 1 ≤ count (eqb x) ys) → 1 ≤ bit b + count (eqb x) ys
    go true h ih = omega arith
    go false h ih = omega (arith, ih h)

-- what stands in a list with one more at its end
pub member_snoc : (x y : ℕ) (ys : List ℕ) → member x (ys ++ (y ∷ [])) ≡ (member x ys || eqb x y)
unfolding member
member_snoc x y [] = or-false (eqb x y)
member_snoc x y (z ∷ zs) = rw (member_snoc x y zs) (sym (or_assoc (eqb x z) (member x zs) (eqb x y)))

-- an entry of a list stands at some index
pub mem_at : {A : Type 0} (xs : List A) (d x : A) → Memᴰ x xs → (k : ℕ) × (k < length xs) × (get_or xs k d ≡ x)
mem_at [] d x m = absurd (Memᴰ.not-nil m)
mem_at (y ∷ ys) d x m = go (Memᴰ.cases_cons m) (mem_at ys d x)
  where
    go : (x ≡ y) ⊎ Memᴰ x ys → (Memᴰ x ys → (k : ℕ) × (k < length ys) × (get_or ys k d ≡ x))
        → (k : ℕ) × (k < length (y ∷ ys)) × (get_or (y ∷ ys) k d ≡ x)
    go (inl e) ih = (0, omega arith, sym e)
    go (inr j) ih = let r = ih j in (suc r.0, omega (arith, r.1), r.2)

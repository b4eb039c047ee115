-- The items that a list lacks, counted: what stands for a pigeonhole. A list that gains an item that it lacked lacks one fewer.
use Prim.Native.Nat.{ℕ, zero, suc, ◌+◌, ◌≤◌, ◌<◌}
use mathlib.Core.Path.{◌≡◌, refl, sym}
use mathlib.Core.Bool.{Bool, true, false, not, or-false}
use mathlib.Core.List.{List, [], ◌∷◌, ◌++◌}
use mathlib.Core.Logic.{◌⊎◌, inl, inr}
use native.Mathlib.Nat.{eq-or-lt_of_le, le_of_suc-le-suc}
use native.Mathlib.Omega.{arith}
use borrow.Author.Tests.{eq-eqb, ne_eqb}
use Rattle.terms.specs.Terms.{bit, member}
use Rattle.terms.proofs.CountLaws.{member_snoc}

-- how many of the numbers below n are not in xs
pub unseen : ℕ → List ℕ → ℕ
unseen zero xs = 0
unseen (suc n) xs = bit (not (member n xs)) + unseen n xs

pub unseen_nil : (n : ℕ) → unseen n [] ≡ n
unfolding unseen member
unseen_nil zero = refl
unseen_nil (suc n) = omega (arith, unseen_nil n)

module _ (x : ℕ) (xs : List ℕ) (new : member x xs ≡ false) where
  -- x is none of the numbers below n
  unseen_above : (n : ℕ) → n ≤ x → unseen n (xs ++ (x ∷ [])) ≡ unseen n xs
  unfolding unseen
  unseen_above zero h = refl
  unseen_above (suc n) h = rw (member_snoc n x xs, ne_eqb n x (omega arith), or-false (member n xs), unseen_above n (omega arith))

  pub unseen_snoc : (n : ℕ) → x < n → unseen n xs ≡ unseen n (xs ++ (x ∷ [])) + 1
  unfolding unseen
  unseen_snoc zero h = absurd (omega arith)
  unseen_snoc (suc n) h = go (eq-or-lt_of_le (le_of_suc-le-suc h)) (unseen_snoc n)
    where
      go : (x ≡ n) ⊎ (x < n) → (x < n → unseen n xs ≡ unseen n (xs ++ (x ∷ [])) + 1) → bit (not (member n xs)) + unseen n xs ≡ bit (not (member n (xs ++ (x ∷ [])))) + unseen n (xs ++ (x ∷ [])) + 1
      go (inl e) ih =
          let m : member n xs ≡ false = rw (← e) new in
          let t : member n (xs ++ (x ∷ [])) ≡ true = rw (member_snoc n x xs, m, eq-eqb n x (sym e)) in
          rw (m, t) (omega (arith, unseen_above n (omega arith)))
      go (inr l) ih = rw (member_snoc n x xs, ne_eqb n x (omega arith), or-false (member n xs)) (omega (arith, ih l))

pub unseen_none : (n : ℕ) (xs : List ℕ) → unseen n xs ≡ 0 → (i : ℕ) → i < n → member i xs ≡ true
unfolding unseen
unseen_none zero xs h i l = absurd (omega arith)
unseen_none (suc n) xs h i l = go (member n xs) refl h (eq-or-lt_of_le (le_of_suc-le-suc l)) (λ e. unseen_none n xs e i)
  where
    go : (b : Bool) → member n xs ≡ b → bit (not b) + unseen n xs ≡ 0 → (i ≡ n) ⊎ (i < n) → (unseen n xs ≡ 0 → i < n → member i xs ≡ true) → member i xs ≡ true
    go true e q (inl j) ih = rw j e
    go true e q (inr j) ih = ih (omega arith) j
    go false e q w ih = absurd (omega arith)

pub unseen_some : (n : ℕ) (xs : List ℕ) → 1 ≤ unseen n xs → (i : ℕ) × (i < n) × (member i xs ≡ false)
unfolding unseen
unseen_some zero xs h = absurd (omega arith)
unseen_some (suc n) xs h = go (member n xs) refl h (unseen_some n xs)
  where
    go : (b : Bool) → member n xs ≡ b → 1 ≤ bit (not b) + unseen n xs → (1 ≤ unseen n xs → (i : ℕ) × (i < n) × (member i xs ≡ false)) → (i : ℕ) × (i < suc n) × (member i xs ≡ false)
    go true e q ih = let r = ih (omega arith) in (r.0, omega (arith, r.1), r.2)
    go false e q ih = (n, omega arith, e)

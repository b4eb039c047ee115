-- The test `same_bytes` is equality, and what the library's `==` on slices tests.
use Prim.Native.Nat.{ℕ, suc}
use mathlib.Core.Path.{◌≡◌, refl, ap, ap₂}
use mathlib.Core.Bool.{true, false, and-false, false≢true}
use mathlib.Core.List.{List, [], ◌∷◌}
use lib.ListN.{length}
use lib.Dec.{eqb}
use Rattle.std.specs.Cmp.Lexicographic.{pointwise}
use borrow.Author.Tests.{eq-eqb, eqb-true}
use Rattle.terms.specs.Terms.{same_bytes}
use Rattle.terms.proofs.TestLaws.{and_both}

pub same_longer : (a b : List ℕ) → (length a ≡ length b → ⊥) → same_bytes a b ≡ false
unfolding same_bytes
same_longer [] [] h = absurd (h refl)
same_longer [] (y ∷ ys) h = refl
same_longer (x ∷ xs) [] h = refl
same_longer (x ∷ xs) (y ∷ ys) h = rw (same_longer xs ys (λ e. h (ap suc e)), and-false)

-- the test holds exactly of equal lists
pub same_equal : (a b : List ℕ) → same_bytes a b ≡ true → a ≡ b
unfolding same_bytes
same_equal [] [] h = refl
same_equal [] (y ∷ ys) h = absurd (false≢true h)
same_equal (x ∷ xs) [] h = absurd (false≢true h)
same_equal (x ∷ xs) (y ∷ ys) h =
    let e = and_both (eqb x y) (same_bytes xs ys) h in
    ap₂ (λ (u : ℕ) (us : List ℕ). u ∷ us) (eqb-true x y e.0) (same_equal xs ys e.1)

pub same_self : (a : List ℕ) → same_bytes a a ≡ true
unfolding same_bytes
same_self [] = refl
same_self (x ∷ xs) = rw (eq-eqb x x refl) (same_self xs)

-- the library's `==` on slices tests the same
pub same_pointwise : (a b : List ℕ) → pointwise eqb a b ≡ same_bytes a b
unfolding same_bytes
same_pointwise [] [] = refl
same_pointwise [] (y ∷ ys) = refl
same_pointwise (x ∷ xs) [] = refl
same_pointwise (x ∷ xs) (y ∷ ys) = rw (same_pointwise xs ys)

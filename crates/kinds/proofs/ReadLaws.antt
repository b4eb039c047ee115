-- A word compared with a literal's bytes, read one by one.
use Prim.Native.Nat.{ℕ, suc}
use mathlib.Core.Path.{◌≡◌, refl, ap, ◌∙◌}
use mathlib.Core.Bool.{Bool, true, false, ◌&&◌}
use mathlib.Core.List.{List, [], ◌∷◌}
use lib.Dec.{eqb}
use lib.ListN.{length, get_or}
use borrow.Author.Tests.{eq-eqb, ne_eqb}
use native.Mathlib.Omega.{arith}
use Rattle.terms.specs.Terms.{same_bytes}
use Rattle.terms.proofs.BytesLaws.{same_longer}

-- the bytes stand in s from i on
unfoldable pub reads : List ℕ → ℕ → List ℕ → Bool
reads s i [] = true
reads s i (c ∷ p) = eqb (get_or s i 0) c && reads s (suc i) p

-- what is put in front of s moves them
reads_behind : (x : ℕ) (s : List ℕ) (i : ℕ) (p : List ℕ) → reads (x ∷ s) (suc i) p ≡ reads s i p
unfolding reads
reads_behind x s i [] = refl
reads_behind x s i (c ∷ p) = ap (λ (t : Bool). eqb (get_or s i 0) c && t) (reads_behind x s (suc i) p)

-- all of s is p, where p stands in it and is as long
pub reads_all : (s p : List ℕ) → length s ≡ length p → same_bytes s p ≡ reads s 0 p
unfolding same_bytes reads
reads_all [] [] e = refl
reads_all [] (y ∷ ys) e = absurd (omega arith)
reads_all (x ∷ xs) [] e = absurd (omega arith)
reads_all (x ∷ xs) (y ∷ ys) e = rw (reads_behind x xs 0 ys, reads_all xs ys (omega arith))

pub reads_on : (s : List ℕ) (i c : ℕ) (p : List ℕ) → get_or s i 0 ≡ c → reads s i (c ∷ p) ≡ reads s (suc i) p
unfolding reads
reads_on s i c p e = rw (eq-eqb _ _ e)

-- five at once, for the longest keywords: `grind` goes only so many steps
pub reads_five : (s : List ℕ) (i a b c d m : ℕ) (p : List ℕ) → get_or s i 0 ≡ a → get_or s (suc i) 0 ≡ b → get_or s (suc (suc i)) 0 ≡ c
    → get_or s (suc (suc (suc i))) 0 ≡ d → get_or s (suc (suc (suc (suc i)))) 0 ≡ m
    → reads s i (a ∷ b ∷ c ∷ d ∷ m ∷ p) ≡ reads s (suc (suc (suc (suc (suc i))))) p
reads_five s i a b c d m p e f g h k =
    reads_on s i a (b ∷ c ∷ d ∷ m ∷ p) e ∙ reads_on s (suc i) b (c ∷ d ∷ m ∷ p) f ∙ reads_on s (suc (suc i)) c (d ∷ m ∷ p) g
    ∙ reads_on s (suc (suc (suc i))) d (m ∷ p) h ∙ reads_on s (suc (suc (suc (suc i)))) m p k

pub reads_off : (s : List ℕ) (i c : ℕ) (p : List ℕ) → (get_or s i 0 ≡ c → ⊥) → reads s i (c ∷ p) ≡ false
unfolding reads
reads_off s i c p e = rw (ne_eqb _ _ e)

pub reads_end : (s : List ℕ) (i : ℕ) → reads s i [] ≡ true
unfolding reads
reads_end s i = refl

-- what decides each arm and each default of a `match` on byte strings
pub ruleset by_bytes = (same_longer, reads_all, reads_five, reads_on, reads_off, reads_end)

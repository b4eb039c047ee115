-- Tests: from a fact on numbers to a test, and back; joined tests taken apart.
use Prim.Native.Nat.{ℕ, ◌≤◌, ◌<◌}
use mathlib.Core.Path.{◌≡◌, refl, sym}
use mathlib.Core.Bool.{Bool, true, false, ◌&&◌, ◌||◌, false≢true}
use mathlib.Core.Logic.{◌⊎◌, inl, inr}
use lib.Dec.{leb}
use borrow.Author.Tests.{le-leb, lt-leb, leb-true}
use Rattle.terms.specs.Terms.{within}

-- a conjunction that holds has both parts, a disjunction that holds one of them
pub and_both : (s t : Bool) → (s && t) ≡ true → (s ≡ true) × (t ≡ true)
and_both true t e = (refl, e)
and_both false t e = absurd (false≢true e)

pub or_either : (s t : Bool) → (s || t) ≡ true → (s ≡ true) ⊎ (t ≡ true)
or_either true t e = inl refl
or_either false t e = inr e

-- and where it does not, a conjunction with one part lacks the other, and a disjunction lacks both
pub and_lacks : (s t : Bool) → (s && t) ≡ false → s ≡ true → t ≡ false
and_lacks true t e h = e
and_lacks false t e h = absurd (false≢true h)

pub or_neither : (s t : Bool) → (s || t) ≡ false → (s ≡ false) × (t ≡ false)
or_neither true t e = absurd (false≢true (sym e))
or_neither false t e = (refl, e)

-- a test that cannot hold does not
pub fails : (t : Bool) → (t ≡ true → ⊥) → t ≡ false
fails true h = absurd (h refl)
fails false h = refl

-- no test both holds and does not
pub clash : (t : Bool) → t ≡ true → t ≡ false → ⊥
clash true p q = false≢true (sym q)
clash false p q = false≢true p

pub within_yes : (low high x : ℕ) → low ≤ x → x ≤ high → within low high x ≡ true
unfolding within
within_yes low high x p q = simp (le-leb _ _ p, le-leb _ _ q)

pub within_below : (low high x : ℕ) → x < low → within low high x ≡ false
unfolding within
within_below low high x p = simp (lt-leb _ _ p)

pub within_above : (low high x : ℕ) → high < x → within low high x ≡ false
unfolding within
within_above low high x p = go (leb low x)
  where
    go : (t : Bool) → (t && leb x high) ≡ false
    go true = lt-leb x high p
    go false = refl

pub within_true : (low high x : ℕ) → within low high x ≡ true → (low ≤ x) × (x ≤ high)
unfolding within
within_true low high x e =
    let h = and_both (leb low x) (leb x high) e in
    (leb-true _ _ h.0, leb-true _ _ h.1)

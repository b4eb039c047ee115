-- A fact about every number below a bound is computed once, over all of them.
use Prim.Native.Nat.{ℕ, zero, suc, ◌<◌}
use mathlib.Core.Path.{◌≡◌, refl}
use mathlib.Core.Bool.{Bool, true, false, not, ◌&&◌, false≢true}
use native.Mathlib.Omega.{arith}
use lib.Dec.{eqb}
use borrow.Author.Tests.{eqb-true, eqb-false}
use Rattle.terms.proofs.TestLaws.{and_both}

unfoldable pub all_below : ℕ → (ℕ → Bool) → Bool
all_below zero test = true
all_below (suc n) test = test n && all_below n test

pub below : (n : ℕ) (test : ℕ → Bool) → all_below n test ≡ true → (b : ℕ) → b < n → test b ≡ true
unfolding all_below
below zero test e b h = absurd (omega arith)
below (suc n) test e b h = go (eqb b n) refl (below n test parts.1 b)
  where
    parts : (test n ≡ true) × (all_below n test ≡ true)
    parts = and_both (test n) (all_below n test) e

    go : (t : Bool) → eqb b n ≡ t → (b < n → test b ≡ true) → test b ≡ true
    go true q ih = rw (eqb-true b n q) parts.0
    go false q ih = ih (omega (arith, eqb-false b n q))

-- two tests say the same
unfoldable pub alike : Bool → Bool → Bool
alike true t = t
alike false t = not t

alike_is : (s t : Bool) → alike s t ≡ true → s ≡ t
unfolding alike
alike_is true true e = refl
alike_is true false e = absurd (false≢true e)
alike_is false true e = absurd (false≢true e)
alike_is false false e = refl

pub alike_below : (n : ℕ) (f g : ℕ → Bool) → all_below n (λ b. alike (f b) (g b)) ≡ true → (b : ℕ) → b < n → f b ≡ g b
alike_below n f g all b h = alike_is (f b) (g b) (below n (λ (x : ℕ). alike (f x) (g x)) all b h)

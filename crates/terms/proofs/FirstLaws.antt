-- What a loop that searches needs of `first`: the whole search is the search from i on, for as long as nothing before i passed.
-- The loop's invariant is `first test 0 n ≡ first test i (n - i)`; the laws are its start, its step, its hit and its end.
use Rattle.std.specs.Prelude.{if◌then◌else◌}
use Prim.Native.Nat.{ℕ, zero, suc, ◌+◌, ◌-◌, ◌≤◌, ◌<◌, zero-le}
use mathlib.Core.Path.{◌≡◌, refl, ap₂, ◌∙◌}
use mathlib.Core.Bool.{Bool, true, false}
use mathlib.Core.Logic.{◌⊎◌, inl, inr}
use native.Mathlib.Nat.{eq-or-lt_of_le, le_refl}
use native.Mathlib.Numerals.{add-one}
use native.Mathlib.Omega.{arith}
use Rattle.terms.specs.Terms.{first}

module _ (test : ℕ → Bool) where
  open_suc : (i m : ℕ) → first test i (suc m) ≡ (if test i then i else first test (suc i) m)
  unfolding first
  open_suc i m = refl

  open_at : (i n : ℕ) → i < n → first test i (n - i) ≡ (if test i then i else first test (i + 1) (n - (i + 1)))
  open_at i n l =
      let e : n - i ≡ suc (n - (i + 1)) = omega arith in
      rw (e, open_suc, add-one i)

  pub first_start : (n : ℕ) → first test 0 n ≡ first test 0 (n - 0)
  first_start n =
      let e : n - 0 ≡ n = omega arith in
      rw e

  pub first_miss : (i n : ℕ) → i < n → test i ≡ false → first test i (n - i) ≡ first test (i + 1) (n - (i + 1))
  first_miss i n l e = open_at i n l ∙ rw e

  pub first_hit : (i n : ℕ) → i < n → test i ≡ true → first test i (n - i) ≡ i
  first_hit i n l e = open_at i n l ∙ rw e

  pub first_end : (i n : ℕ) → n ≤ i → first test i (n - i) ≡ i
  unfolding first
  first_end i n l =
      let e : n - i ≡ 0 = omega arith in
      rw e

  -- past any that do not pass
  pub first_skip : (k i n : ℕ) → i + k ≤ n → ((j : ℕ) → i ≤ j → j < i + k → test j ≡ false) → first test i (n - i) ≡ first test (i + k) (n - (i + k))
  first_skip zero i n l h =
      let e : i + 0 ≡ i = omega arith in
      rw e
  first_skip (suc k) i n l h =
      let e : i + 1 + k ≡ i + suc k = omega arith in
      first_miss i n (omega arith) (h i (omega arith) (omega arith))
      ∙ rw e at (first_skip k (i + 1) n (omega arith) (λ j a b. h j (omega arith) (omega arith)))

  -- what the answer says: nothing before it passes, it passes where it is below the end, and it is never before the start or beyond the end
  pub none_before : (n i k : ℕ) → i ≤ k → k < first test i n → test k ≡ false
  unfolding first
  none_before zero i k a b = absurd (omega arith)
  none_before (suc n) i k a b = go (test i) refl (eq-or-lt_of_le a) b (none_before n (suc i) k)
    where
      go : (t : Bool) → test i ≡ t → (i ≡ k) ⊎ (i < k) → k < (if t then i else first test (suc i) n)
          → (suc i ≤ k → k < first test (suc i) n → test k ≡ false) → test k ≡ false
      go true e w h ih = absurd (omega arith)
      go false e (inl q) h ih = rw (← q) e
      go false e (inr q) h ih = ih q h

  pub first_le : (n i : ℕ) → first test i n ≤ i + n
  unfolding first
  first_le zero i = omega arith
  first_le (suc n) i = go (test i) (first_le n (suc i))
    where
      go : (t : Bool) → first test (suc i) n ≤ suc i + n → (if t then i else first test (suc i) n) ≤ i + suc n
      go true h = omega arith
      go false h = omega arith

  pub first_from : (n i : ℕ) → i ≤ first test i n
  unfolding first
  first_from zero i = omega arith
  first_from (suc n) i = go (test i) (first_from n (suc i))
    where
      go : (t : Bool) → suc i ≤ first test (suc i) n → i ≤ (if t then i else first test (suc i) n)
      go true h = omega arith
      go false h = omega arith

  pub first_passes : (n i : ℕ) → first test i n < i + n → test (first test i n) ≡ true
  unfolding first
  first_passes zero i l = absurd (omega arith)
  first_passes (suc n) i l = go (test i) refl l (first_passes n (suc i))
    where
      go : (t : Bool) → test i ≡ t → (if t then i else first test (suc i) n) < i + suc n
          → (first test (suc i) n < suc i + n → test (first test (suc i) n) ≡ true)
          → test (if t then i else first test (suc i) n) ≡ true
      go true e h ih = e
      go false e h ih = ih (omega arith)

  -- where a search from 0 finds nothing, nothing passes
  pub first_none : (n k : ℕ) → n ≤ first test 0 n → k < n → test k ≡ false
  first_none n k l h = none_before n 0 k zero-le (omega arith)

  -- nothing before it passes, and it passes or is the end: that is the answer
  pub first_is : (n r : ℕ) → r ≤ n → ((k : ℕ) → k < r → test k ≡ false) → (r < n → test r ≡ true) → first test 0 n ≡ r
  first_is n r le before passes =
      let e : 0 + r ≡ r = omega arith in
      first_start n ∙ rw e at (first_skip r 0 n (omega arith) (λ k a b. before k (omega arith))) ∙ go (eq-or-lt_of_le le)
    where
      go : (r ≡ n) ⊎ (r < n) → first test r (n - r) ≡ r
      go (inl e) = first_end r n (omega arith)
      go (inr l) = first_hit r n l (passes l)

-- two tests that agree below the end find the same
pub first_cong : (p q : ℕ → Bool) (n i : ℕ) → ((k : ℕ) → i ≤ k → k < i + n → p k ≡ q k) → first p i n ≡ first q i n
unfolding first
first_cong p q zero i h = refl
first_cong p q (suc n) i h =
    ap₂ (λ (t : Bool) (r : ℕ). if t then i else r) (h i (le_refl i) (omega arith))
    (first_cong p q n (suc i) (λ k a b. h k (omega arith) (omega arith)))

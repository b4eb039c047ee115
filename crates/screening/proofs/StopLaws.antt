-- A search by 64 places at a time.
use Rattle.std.specs.Prelude.{if◌then◌else◌}
use Prim.Native.Nat.{ℕ, ◌+◌, ◌-◌, ◌≤◌, ◌<◌, min}
use mathlib.Core.Path.{◌≡◌, refl, ◌∙◌}
use mathlib.Core.Bool.{Bool, true, false}
use mathlib.Core.Logic.{◌⊎◌, inl, inr}
use native.Mathlib.Omega.{arith}
use native.Mathlib.Nat.{add-zero}
use Rattle.terms.specs.Terms.{first}
use Rattle.terms.proofs.FirstLaws.{first_miss, first_hit, first_end, first_skip, first_le, first_from, first_passes, none_before}

module _ (test : ℕ → Bool) where
  -- a search goes on from where a shorter one ends
  pub first_part : (n i e : ℕ) → i + n ≤ e → first test i (e - i) ≡ first test (first test i n) (e - first test i n)
  first_part n i e l =
      let b : i + (first test i n - i) ≡ first test i n = omega (arith, first_from test n i) in
      rw b at (first_skip test (first test i n - i) i e (omega (arith, first_le test n i)) (λ j a h. none_before test n i j a (omega arith)))

  -- and ends there where that one found something
  pub first_found : (n i e : ℕ) → i + n ≤ e → first test i n < i + n → first test i (e - i) ≡ first test i n
  first_found n i e l h = first_part n i e l ∙ first_hit test (first test i n) e (omega arith) (first_passes test n i h)

  module _ (k : ℕ) where
    -- of the first i of the 64 places from k on the n-th is the first that passes, or n is 64 and none does
    abbrev pub Sought : ℕ → ℕ → Type 0
    Sought i n =
        ((n ≡ 64) × (first test k (k + 64 - k) ≡ first test (k + i) (k + 64 - (k + i)))) ⊎ ((n < i) × (first test k (k + 64 - k) ≡ k + n))

    pub sought_none : Sought 0 64
    sought_none = inl (refl, rw (add-zero k))

    pub sought_more : (i n : ℕ) → i < 64 → Sought i n → Sought (i + 1) (min n (if test (k + i) then i else 64))
    sought_more i n l s = go (test (k + i)) refl s
      where
        go : (t : Bool) → test (k + i) ≡ t → Sought i n → Sought (i + 1) (min n (if t then i else 64))
        go true e (inl q) =
            let m : k + i ≡ k + min n i = omega (arith, q.0) in
            inr (omega (arith, q.0), q.1 ∙ first_hit test (k + i) (k + 64) (omega arith) e ∙ m)
        go true e (inr q) =
            let m : k + n ≡ k + min n i = omega (arith, q.0) in
            inr (omega (arith, q.0), q.1 ∙ m)
        go false e (inl q) =
            let m : k + i + 1 ≡ k + (i + 1) = omega arith in
            inl (omega (arith, q.0), q.1 ∙ rw m at (first_miss test (k + i) (k + 64) (omega arith) e))
        go false e (inr q) =
            let m : k + n ≡ k + min n 64 = omega (arith, q.0) in
            inr (omega (arith, q.0), q.1 ∙ m)

    pub sought_all : (n : ℕ) → Sought 64 n → first test k 64 ≡ k + n
    sought_all n s =
        let w : k + 64 - k ≡ 64 = omega arith in
        rw w at (go s)
      where
        go : Sought 64 n → first test k (k + 64 - k) ≡ k + n
        go (inl q) =
            let m : k + 64 ≡ k + n = omega (arith, q.0) in
            q.1 ∙ first_end test (k + 64) (k + 64) (omega arith) ∙ m
        go (inr q) = q.1

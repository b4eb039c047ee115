-- A search for a place: what does not change from each place that it passes to the next.
use Prim.Native.Nat.{ℕ, ◌+◌, ◌-◌, ◌<◌}
use mathlib.Core.Path.{◌≡◌, ap, ◌∙◌}
use mathlib.Core.Bool.{Bool, false}
use native.Mathlib.Omega.{arith}
use Rattle.terms.specs.Terms.{first}
use Rattle.terms.proofs.FirstLaws.{first_le, first_from, none_before}
use Rattle.answers.specs.declared.Place.{Place}
use Rattle.answers.specs.Places.{place}
use Rattle.chars.specs.Utf8.{on_by}
use Rattle.chars.proofs.ViewLaws.{strides}

module _ (test : ℕ → Bool) where
  -- what stays the same from each place that a search passes to the next is the same where it ends
  pub seek_steps : {A : Type 0} (F : Place → A) (p : Place) (n : ℕ)
      → ((i : ℕ) → i < n → test (p.0 + i) ≡ false → F (on_by i p) ≡ F (on_by 1 (on_by i p))) → F p ≡ F (place (first test p.0 n))
  seek_steps F p n one = strides F p (first test p.0 n - p.0) turn ∙ ap (λ (m : ℕ). F (place m)) back
    where
      back : p.0 + (first test p.0 n - p.0) ≡ first test p.0 n
      back = omega (arith, first_from test n p.0)

      turn : (i : ℕ) → i < first test p.0 n - p.0 → F (on_by i p) ≡ F (on_by 1 (on_by i p))
      turn i h = one i (omega (arith, first_le test n p.0)) (none_before test n p.0 (p.0 + i) (omega arith) (omega arith))

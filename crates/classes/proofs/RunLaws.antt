-- A run of keylike continuations: its turns, and what passes over it at once.
use Prim.Native.Nat.{ℕ, zero, suc, ◌-◌, ◌<◌}
use mathlib.Core.Path.{◌≡◌, refl, sym, ap, ◌∙◌}
use mathlib.Core.Bool.{Bool, true, false}
use mathlib.Core.List.{List}
use native.Mathlib.Nat.{le_refl}
use native.Mathlib.Omega.{arith}
use lib.ListN.{length}
use Rattle.answers.specs.declared.Place.{Place}
use Rattle.answers.specs.declared.Ill.{Ill as Sequence}
use Rattle.std.specs.Prelude.{None, Some, Ok, Err}
use Rattle.chars.specs.Utf8.{Read}
use Rattle.chars.specs.View.{Chars, char, folded_at, folded_from}
use Rattle.chars.proofs.ViewLaws.{folded_onward, folded_ill_at, folded_end, folded_ill, folded_char}
use Rattle.classes.specs.Classes.{keylike_continue}
use Rattle.classes.specs.inner.Runs.{keylike_end}

module _ (s : List ℕ) (p : Place) where
  pub keylike_end_lem : folded_at s p ≡ Ok None → keylike_end (folded_from s p) ≡ p
  unfolding keylike_end
  keylike_end_lem e = rw (folded_end s p e)

  pub keylike_ill : (i : Sequence) → folded_at s p ≡ Err i → keylike_end (folded_from s p) ≡ i.at
  unfolding keylike_end
  keylike_ill i e = rw (folded_ill s p i e)

  module _ (c : ℕ) (n : Place) (e : folded_at s p ≡ Ok (Some (c, n))) where
    pub keylike_on : keylike_continue c ≡ true → keylike_end (folded_from s p) ≡ keylike_end (folded_from s n)
    unfolding keylike_end
    keylike_on h = rw (folded_char s p c n e, h)

    pub keylike_stops : keylike_continue c ≡ false → keylike_end (folded_from s p) ≡ p
    unfolding keylike_end
    keylike_stops h = rw (folded_char s p c n e, h)

-- for the loop: where a run goes on, and where it ends
pub ruleset run_steps = (keylike_end_lem, keylike_ill, folded_ill_at, keylike_on, keylike_stops, folded_onward)

-- what holds of a place where no run goes on, and goes from the place behind a keylike continuation to that character's, holds of each place
to_the_end : (s : List ℕ) (P : Place → Type 0) → ((q : Place) → keylike_end (folded_from s q) ≡ q → P q)
    → ((q : Place) (c : ℕ) (n : Place) → folded_at s q ≡ Ok (Some (c, n)) → keylike_continue c ≡ true → P n → P q)
    → (k : ℕ) (p : Place) → length s - p.0 < k → P p
to_the_end s P stop on zero p h = absurd (omega arith)
to_the_end s P stop on (suc k) p h = go (folded_at s p) refl (to_the_end s P stop on k)
  where
    turn : (c : ℕ) (n : Place) → folded_at s p ≡ Ok (Some (c, n)) → (t : Bool) → keylike_continue c ≡ t → (length s - n.0 < k → P n) → P p
    turn c n e true g ih = let o = folded_onward s p c n e in on p c n e g (ih (omega arith))
    turn c n e false g ih = stop p (keylike_stops s p c n e g)

    go : (r : Read) → folded_at s p ≡ r → ((n : Place) → length s - n.0 < k → P n) → P p
    go (Ok None) e ih = stop p (keylike_end_lem s p e)
    go (Err i) e ih = stop p (keylike_ill s p i e ∙ ap (λ (j : Sequence). j.at) (folded_ill_at s p i e))
    go (Ok (Some (c, n))) e ih = turn c n e (keylike_continue c) refl (ih n)

module _ (s : List ℕ) (p : Place) where
  -- THE LAW: what no keylike continuation changes, the whole run does not change
  keylike_strides : {A : Type 0} (F : Place → A)
      → ((q : Place) (c : ℕ) (n : Place) → folded_at s q ≡ Ok (Some (c, n)) → keylike_continue c ≡ true → F q ≡ F n) → F p ≡ F (keylike_end (folded_from s p))
  keylike_strides F one =
      to_the_end s (λ (q : Place). F q ≡ F (keylike_end (folded_from s q))) (λ q e. ap F (sym e))
      (λ q c n e h ih. one q c n e h ∙ ih ∙ ap F (sym (keylike_on s q c n e h))) (suc (length s - p.0)) p (le_refl (suc (length s - p.0)))

  -- and of the view
  pub keylike_passes : {A : Type 0} (f : Chars → A) → ((q : Place) (c : ℕ) (v : Chars) → keylike_continue c ≡ true → f (char q c v) ≡ f v)
      → f (folded_from s p) ≡ f (folded_from s (keylike_end (folded_from s p)))
  keylike_passes f one = keylike_strides (λ (q : Place). f (folded_from s q)) (λ q c n e h. ap f (folded_char s q c n e) ∙ one q c (folded_from s n) h)

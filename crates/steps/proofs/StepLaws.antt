-- What a step's checks leave, and what next does with the token at a place.
use Rattle.std.specs.Prelude.{None, Some, Ok, Err, if◌then◌else◌}
use Prim.Native.Nat.{ℕ, ◌≤◌}
use mathlib.Core.Path.{◌≡◌, refl, sym, ap, ◌∙◌}
use mathlib.Core.Bool.{Bool, true, false, ◌&&◌, and-true, false≢true}
use native.Mathlib.Omega.{arith}
use mathlib.Core.List.{List, [], ◌∷◌}
use lib.ListN.{length}
use lib.Dec.{leb, eqb}
use borrow.Author.Tests.{le-leb, leb-true, eq-eqb, ne_eqb, eqb-true}
use Rattle.std.specs.List.{starts_with}
use Rattle.answers.specs.declared.Place.{Place}
use Rattle.answers.specs.declared.Refusal.{Refusal}
use Rattle.answers.specs.Places.{place}
use Rattle.answers.specs.Caps.{Verdict, accepted, first_of, text_verdict}
use Rattle.terms.proofs.TestLaws.{and_both}
use Rattle.chars.specs.Utf8.{byte_at}
use Rattle.chars.proofs.Utf8Laws.{byte_in}
use Rattle.screening.specs.Screening.{invalid_input}
use Rattle.answers.proofs.CapsLaws.{Fits, text_in, fits_text, first_accepted, first_both, accepted_if}
use Rattle.tokens.specs.declared.Lexeme.{Lexeme}
use Rattle.tokens.specs.Tokens.{raw_at}
use Rattle.steps.specs.declared.Moved.{Moved}
use Rattle.steps.specs.Stream.{tokens_from}
use Rattle.steps.specs.Steps.{Opened, marked, opened, opened_by, cursor_verdict, step_verdict, moved, moved_by, is_blank, next_step, next_at}
use Rattle.steps.proofs.StreamLaws.{tokens_done, tokens_stop, tokens_token}

-- a step that passes its checks stands within a text that fits
pub record Stands (s : List ℕ) (o : ℕ) (p : Place) : Type 0 where
  pub fits : Fits o (length s)
  pub within : p.0 ≤ length s

pub step_in : (s : List ℕ) (o : ℕ) (p : Place) → step_verdict s o p ≡ accepted → Stands s o p
unfolding step_verdict cursor_verdict
step_in s o p e =
    let b = first_both (text_verdict o (length s)) (cursor_verdict s p) e in
    record { fits = text_in o (length s) b.0; within = leb-true p.0 (length s) (accepted_if (leb p.0 (length s)) Refusal.BeyondText b.1) }

pub step_fits : (s : List ℕ) (o : ℕ) (p : Place) → Stands s o p → step_verdict s o p ≡ accepted
unfolding step_verdict cursor_verdict
step_fits s o p w = first_accepted (text_verdict o (length s)) (cursor_verdict s p) (fits_text o (length s) w.fits) ∙ rw (le-leb p.0 (length s) w.within)

-- a step whose checks accept answers what it found; where they refuse, the cursor stays
pub moved_on : (v : Verdict) (p : Place) (m : Moved) → v ≡ accepted → moved_by v p m ≡ m
unfolding moved_by
moved_on v p m e = rw e

pub moved_refused : (v : Verdict) (p : Place) (m : Moved) (f : Refusal) → v ≡ Err f → moved_by v p m ≡ moved (Err f) p
unfolding moved_by
moved_refused v p m f e = rw e

-- next is then what the tokens from there on say
pub next_fits : (s : List ℕ) (o : ℕ) (p : Place) → Stands s o p → next_at s o p ≡ next_step p (tokens_from s o p)
unfolding next_at
next_fits s o p w = moved_on _ _ _ (step_fits s o p w)

module _ (from : Place) (s : List ℕ) (o : ℕ) (p : Place) where
  pub next_end : raw_at s o p ≡ Ok None → next_step from (tokens_from s o p) ≡ moved (Ok None) p
  unfolding next_step
  next_end e = rw (tokens_done s o p e)

  pub next_refused : (f : Refusal) → raw_at s o p ≡ Err f → next_step from (tokens_from s o p) ≡ moved (Err f) from
  unfolding next_step
  next_refused f e = rw (tokens_stop s o p f e)

  module _ (t : Lexeme) (e : raw_at s o p ≡ Ok (Some t)) where
    pub next_blank : is_blank t.kind ≡ true → next_step from (tokens_from s o p) ≡ next_step from (tokens_from s o t.next)
    unfolding next_step
    next_blank b = rw (tokens_token s o p t e, b)

    pub next_token : is_blank t.kind ≡ false → next_step from (tokens_from s o p) ≡ moved (Ok (Some (t.kind, t.span))) t.next
    unfolding next_step
    next_token b = rw (tokens_token s o p t e, b)

eqb_flip : (a b : ℕ) → eqb a b ≡ eqb b a
eqb_flip a b = go (eqb a b) refl
  where
    go : (t : Bool) → eqb a b ≡ t → t ≡ eqb b a
    go true e = sym (eq-eqb b a (sym (eqb-true a b e)))
    go false e = sym (ne_eqb b a (λ f. let z : true ≡ false = sym (eq-eqb a b (sym f)) ∙ e in absurd (false≢true (sym z))))

-- the three bytes of a byte order mark, one by one
pub starts_marked : (s : List ℕ) → starts_with eqb s (0xEF ∷ 0xBB ∷ 0xBF ∷ []) ≡ marked s
unfolding marked byte_at
starts_marked [] = refl
starts_marked (a ∷ []) = rw (eqb_flip 0xEF a)
starts_marked (a ∷ b ∷ []) = rw (eqb_flip 0xEF a, eqb_flip 0xBB b)
starts_marked (a ∷ b ∷ c ∷ t) = rw (eqb_flip 0xEF a, eqb_flip 0xBB b, eqb_flip 0xBF c, and-true)

-- a byte order mark has three bytes
marked_long : (s : List ℕ) → marked s ≡ true → 3 ≤ length s
unfolding marked
marked_long s e =
    let b = and_both (eqb (byte_at s (place 0)) 0xEF) (eqb (byte_at s (place 1)) 0xBB && eqb (byte_at s (place 2)) 0xBF) e in
    let c = and_both (eqb (byte_at s (place 1)) 0xBB) (eqb (byte_at s (place 2)) 0xBF) b.1 in
    byte_in s (place 2) (omega (arith, eqb-true (byte_at s (place 2)) 0xBF c.1))

at_of : Opened → Place
at_of (Ok p) = p
at_of (Err f) = place 0

-- where a text is opened it fits, and the cursor stands within it
pub opened_in : (s : List ℕ) (o : ℕ) (p : Place) → opened s o ≡ Ok p → Stands s o p
unfolding opened opened_by at_of
opened_in s o p e = go (first_of (text_verdict o (length s)) (invalid_input s)) refl e
  where
    behind : (m : Bool) → marked s ≡ m → (if m then place 3 else place 0).0 ≤ length s
    behind true y = marked_long s y
    behind false y = omega arith

    go : (v : Verdict) → first_of (text_verdict o (length s)) (invalid_input s) ≡ v → opened_by v s ≡ Ok p → Stands s o p
    go (Ok _) y x =
        let b = first_both (text_verdict o (length s)) (invalid_input s) y in
        let at : (if marked s then place 3 else place 0) ≡ p = ap at_of x in
        record { fits = text_in o (length s) b.0; within = rw (← at) (behind (marked s) refl) }
    go (Err f) y x = absurd (let z : ◌≡◌ {A = ℕ} 0 1 = cc in omega arith)

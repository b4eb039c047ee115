-- The one walk of `specs/inner/OneWalk.antt`: it gives what `invalid_input` says, and its turns.
use Prim.Native.Nat.{ℕ}
use mathlib.Core.Path.{◌≡◌, refl, sym, ap, ◌∙◌}
use mathlib.Core.Bool.{true}
use mathlib.Core.List.{List, []}
use Rattle.terms.specs.Terms.{within, said}
use Rattle.terms.proofs.TableLaws.{in_match, word, is_key, is_keys, up, down}
use Rattle.answers.specs.declared.Place.{Place}
use Rattle.answers.specs.declared.Ill.{Ill as Sequence}
use Rattle.answers.specs.declared.Refusal.TheVariants.{IllFormed}
use Rattle.answers.specs.Places.{place}
use Rattle.answers.specs.Caps.{Verdict, accepted, first_of}
use Rattle.chars.specs.Utf8.{byte_at, on_by, char_at}
use Rattle.chars.specs.View.{Chars, end, ill, char, chars_from, well_formed}
use Rattle.std.specs.Prelude.{Option, None, Some, Ok, Err}
use Rattle.chars.proofs.ViewLaws.{chars_end, chars_ill, chars_char}
use Rattle.screening.specs.Screening.{offences, offence_of, screened_by, screened, invalid_input}
use Rattle.screening.specs.inner.OneWalk.{sooner, judged}
use Rattle.screening.specs.inner.Plain.{is_plain, plain_end}
use Rattle.screening.specs.declared.Offence.{Offence}
use Rattle.screening.specs.declared.Offence.TheVariants.{Control, Deprecated, Forbidden}
use Rattle.screening.proofs.PlainLaws.{plain_each, plain_strides}

nothing_more : (v : Verdict) → first_of v accepted ≡ v
unfolding first_of
nothing_more (Ok _) = refl
nothing_more (Err f) = refl

one_more : (v : Verdict) (o : Option Offence) (p : Place) (c : ℕ) (rest : Verdict)
    → first_of (first_of v (screened_by o p c accepted)) rest ≡ first_of v (screened_by o p c rest)
unfolding first_of screened_by
one_more (Ok _) None p c rest = refl
one_more (Ok _) (Some Control) p c rest = refl
one_more (Ok _) (Some Deprecated) p c rest = refl
one_more (Ok _) (Some Forbidden) p c rest = refl
one_more (Err f) o p c rest = refl

-- THE LAW: the one walk from the start is well-formedness first, then screening
judged_is : (v : Chars) (so_far : Verdict) → judged so_far v ≡ first_of (well_formed v) (first_of so_far (screened v))
unfolding judged well_formed screened first_of sooner
judged_is (end p) so_far = sym (nothing_more so_far)
judged_is (ill i) so_far = refl
judged_is (char p c v) so_far =
    judged_is v (first_of so_far (screened_by (offence_of c) p c accepted))
    ∙ ap (first_of (well_formed v)) (one_more so_far (offence_of c) p c (screened v))

pub one_walk : (s : List ℕ) → invalid_input s ≡ judged accepted (chars_from s (place 0))
unfolding invalid_input first_of
one_walk s = sym (judged_is (chars_from s (place 0)) accepted)

-- its turns
module _ (s : List ℕ) (p : Place) (so_far : Verdict) where
  pub walk_end : char_at s p ≡ Ok None → judged so_far (chars_from s p) ≡ so_far
  unfolding judged
  walk_end e = rw (chars_end s p e)

  pub walk_ill : (i : Sequence) → char_at s p ≡ Err i → judged so_far (chars_from s p) ≡ Err (IllFormed i)
  unfolding judged
  walk_ill i e = rw (chars_ill s p i e)

  pub walk_char : (c : ℕ) (n : Place) → char_at s p ≡ Ok (Some (c, n)) → judged so_far (chars_from s p) ≡ judged (sooner so_far p c) (chars_from s n)
  unfolding judged
  walk_char c n e = rw (chars_char s p c n e)

-- a plain byte is no offence
plain_fine : (b : ℕ) → is_plain b ≡ true → offence_of b ≡ None
unfolding offence_of offences said within word is_key is_keys up down
plain_fine = plain_each (λ b. offence_of b ≡ None) (λ b l m. in_match [] 0x20 0x7E b tt l m offences None None refl) refl refl refl

sooner_plain : (so_far : Verdict) (p : Place) (b : ℕ) → is_plain b ≡ true → sooner so_far p b ≡ so_far
unfolding sooner screened_by
sooner_plain so_far p b h = rw (plain_fine b h) (nothing_more so_far)

-- plain text changes nothing
walk_plain : (s less : List ℕ) (p : Place) (so_far : Verdict)
    → judged so_far (chars_from s p) ≡ judged so_far (chars_from s (plain_end s less p))
walk_plain s less p so_far =
    plain_strides s less p (λ (q : Place). judged so_far (chars_from s q)) (λ q h e.
    walk_char s q so_far (byte_at s q) (on_by 1 q) e
    ∙ ap (λ (v : Verdict). judged v (chars_from s (on_by 1 q))) (sooner_plain so_far q _ h))

-- so what a walk gives from a place on it gives from behind the plain text there
pub walk_past : {v : Verdict} (s less : List ℕ) (p q : Place) (so_far : Verdict)
    → v ≡ judged so_far (chars_from s p) → q ≡ plain_end s less p → v ≡ judged so_far (chars_from s q)
walk_past s less p q so_far e h = rw h (e ∙ walk_plain s less p so_far)

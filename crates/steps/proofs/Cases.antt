-- The definitions tried on inputs where 01 could be read in two ways.
use Rattle.std.specs.Prelude.{None, Some, Ok, Err}
use Prim.Native.Nat.{ℕ}
use mathlib.Core.Path.{◌≡◌, refl}
use mathlib.Core.List.{List, [], ◌∷◌}
use Rattle.terms.specs.Terms.{ascii}
use Rattle.answers.specs.declared.Position.{Position}
use Rattle.answers.specs.declared.Span.{Span}
use Rattle.answers.specs.declared.Refusal.{Refusal}
use Rattle.answers.specs.Places.{place}
use Rattle.answers.specs.Caps.{first_of, length_verdict, map_verdict, text_verdict}
use Rattle.chars.specs.View.{well_formed}
use Rattle.screening.specs.Screening.{offences, offence_of, screened_by, screened, invalid_input}
use Rattle.kinds.specs.declared.Token.{Token}
use Rattle.kinds.specs.Kinds.{kind_of}
use Rattle.tokens.proofs.Cases.{at}
use Rattle.steps.specs.declared.Moved.{Moved}
use Rattle.steps.specs.Stream.{after_raw, tokens_by, tokens_from}
use Rattle.steps.specs.Steps.{Opened, marked, opened_by, opened, cursor_verdict, step_verdict, moved, moved_by, raw_step, next_raw_at, is_blank, next_step, next_at}

abbrev pub position : ℕ → Position
position p = record { 0 = p }

abbrev pub span : ℕ → ℕ → Span
span from last = record { start = position from; end = position last }

-- Opening a text that stands at this offset.
unfoldable pub opening : List ℕ → ℕ → Opened
unfolding at opened opened_by marked invalid_input well_formed screened screened_by offence_of offences text_verdict map_verdict length_verdict first_of
opening s o = opened s o

-- 00 FF: 3 goes before screening.
pub ill_before_control : opening (0x00 ∷ 0xFF ∷ []) 0 ≡ Err (Refusal.IllFormed (record { at = place 1 }))
unfolding opening
ill_before_control = refl

-- 65,537 bytes are 1, and its detail is the length,
pub too_long : text_verdict 0 65537 ≡ Err (Refusal.TooLong 65537)
unfolding opening
too_long = refl

-- as far as it goes.
pub far_too_long : text_verdict 0 4294967296 ≡ Err (Refusal.TooLong 4294967295)
unfolding opening
far_too_long = refl

-- No text at offset 4,294,967,295 is 2,
pub out_of_map : opening [] 4294967295 ≡ Err Refusal.OutOfMap
unfolding opening
out_of_map = refl

-- and at one less it is opened.
pub in_the_map : opening [] 4294967294 ≡ Ok (place 0)
unfolding opening
in_the_map = refl

-- EF BB BF EF BB BF: opening skips one byte order mark,
pub mark_skipped : opening (0xEF ∷ 0xBB ∷ 0xBF ∷ 0xEF ∷ 0xBB ∷ 0xBF ∷ []) 0 ≡ Ok (place 3)
unfolding opening
mark_skipped = refl

-- C5 89 is 5.
pub deprecated : opening (0xC5 ∷ 0x89 ∷ []) 0 ≡ Err (Refusal.DeprecatedCodepoint (place 0) 0x149)
unfolding opening
deprecated = refl

-- The steps from a place on, over a text at offset 5.
unfoldable pub next_raw : List ℕ → ℕ → Moved
unfolding opening next_raw_at raw_step moved_by step_verdict cursor_verdict
next_raw s p = next_raw_at s 5 (place p)

unfoldable pub next : List ℕ → ℕ → Moved
unfolding next_raw next_at next_step is_blank kind_of tokens_from tokens_by after_raw
next s p = next_at s 5 (place p)

-- EF BB BF EF BB BF: a step over the second mark is 7,
pub second_mark : next_raw (0xEF ∷ 0xBB ∷ 0xBF ∷ 0xEF ∷ 0xBB ∷ 0xBF ∷ []) 3 ≡ moved (Err (Refusal.Unexpected (position 8) 0xFEFF)) (place 3)
unfolding next_raw
second_mark = refl

-- and one at place 0 too.
pub first_mark : next_raw (0xEF ∷ 0xBB ∷ 0xBF ∷ []) 0 ≡ moved (Err (Refusal.Unexpected (position 5) 0xFEFF)) (place 0)
unfolding next_raw
first_mark = refl

-- 00: steps do not screen, so it is 7,
pub control_unscreened : next_raw (0x00 ∷ []) 0 ≡ moved (Err (Refusal.Unexpected (position 5) 0)) (place 0)
unfolding next_raw
control_unscreened = refl

-- C5 89: and U+0149 is an Id.
pub deprecated_unscreened : next_raw (0xC5 ∷ 0x89 ∷ []) 0 ≡ moved (Ok (Some (Token.Id, span 5 7))) (place 2)
unfolding next_raw
deprecated_unscreened = refl

-- C3 A9, cursor 1: inside a character it is 3 at the cursor.
pub inside_character : next_raw (0xC3 ∷ 0xA9 ∷ []) 1 ≡ moved (Err (Refusal.IllFormed (record { at = place 1 }))) (place 1)
unfolding next_raw
inside_character = refl

-- 20 2F 2F: next at the end moves the cursor over blanks and comments to the end.
pub next_at_end : next (ascii " //") 0 ≡ moved (Ok None) (place 3)
unfolding next
next_at_end = refl

-- Next skips blanks and comments.
pub next_skips : next (ascii " /**/a") 0 ≡ moved (Ok (Some (Token.Id, span 10 11))) (place 6)
unfolding next
next_skips = refl

-- 20 0D: a refusal behind a blank leaves the cursor before the blank.
pub refused_behind_blank : next (0x20 ∷ 0x0D ∷ []) 0 ≡ moved (Err (Refusal.Unexpected (position 6) 13)) (place 0)
unfolding next
refused_behind_blank = refl

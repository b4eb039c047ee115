-- The definitions tried on 01's cases, and on inputs where 01 could be read in two ways: the part that is handed back, and the three numbers.
use Rattle.std.proofs.Common.{◌≡◌, ℕ, List, [], ◌∷◌, refl}
use Rattle.terms.specs.Terms.{said, within, ascii}
use Rattle.answers.specs.declared.Span.{Span}
use Rattle.answers.specs.Refusals.{told}
use Rattle.answers.specs.Caps.{first_of, length_verdict, map_verdict, text_verdict}
use Rattle.chars.specs.Utf8.{byte_at, leads, lead_of, is_tail, char_by, char_at}
use Rattle.chars.specs.View.{seen_at, seen_by, chars_from}
use Rattle.parts.specs.Parts.{letters, letter_of, step_by, ended_by, stepped, parts_from}
use Rattle.names.specs.Names.{cut, span_verdict, percent_verdict, plain_verdict, explicit_verdict, named_by, plain_id, explicit_id, part_of, numbered, handed}

abbrev pub span : ℕ → ℕ → Span
span from last = record { start = record { 0 = from }; end = record { 0 = last } }

-- The plain identifier from one position to another, in a text that stands at this offset.
unfoldable pub plain : List ℕ → ℕ → ℕ → ℕ → List ℕ × List ℕ
unfolding handed numbered part_of explicit_id plain_id named_by explicit_verdict plain_verdict parts_from stepped ended_by step_by letter_of letters
    percent_verdict span_verdict cut chars_from seen_by seen_at char_at char_by is_tail lead_of leads byte_at
    text_verdict map_verdict length_verdict first_of told said within ascii
plain s o from last = handed s (plain_id s o (span from last))

-- The explicit one.
unfoldable pub explicit : List ℕ → ℕ → ℕ → ℕ → List ℕ × List ℕ
unfolding plain
explicit s o from last = handed s (explicit_id s o (span from last))

-- P9: `%` as explicit identifier is 19 at 0.
pub p9 : explicit (ascii "%") 0 0 1 ≡ ([], 19 ∷ 0 ∷ 0 ∷ [])
unfolding explicit
p9 = refl

-- P10: `apple-Pear` is 20 at 0 for its `e`.
pub p10 : plain (ascii "apple-Pear") 0 0 10 ≡ ([], 20 ∷ 0 ∷ 101 ∷ [])
unfolding plain
p10 = refl

-- `apple-PEAR-2` is handed back as it stands,
pub each_its_case : plain (ascii "apple-PEAR-2") 5 5 17 ≡ (ascii "apple-PEAR-2", 0 ∷ 0 ∷ 0 ∷ [])
unfolding plain
each_its_case = refl

-- and `%a` without the `%`.
pub without_percent : explicit (ascii "%a") 5 5 7 ≡ (ascii "a", 0 ∷ 0 ∷ 0 ∷ [])
unfolding explicit
without_percent = refl

-- CE BB: a letter of another script is 20.
pub other_script : plain (0xCE ∷ 0xBB ∷ []) 5 5 7 ≡ ([], 20 ∷ 5 ∷ 955 ∷ [])
unfolding plain
other_script = refl

-- `x%a-`, the span of `%a-`: 19 stands at the span's start, the `%` included,
pub empty_at_start : explicit (ascii "x%a-") 5 6 9 ≡ ([], 19 ∷ 6 ∷ 0 ∷ [])
unfolding explicit
empty_at_start = refl

-- `x%1`, the span of `%1`: and so does 20,
pub bad_at_start : explicit (ascii "x%1") 5 6 8 ≡ ([], 20 ∷ 6 ∷ 49 ∷ [])
unfolding explicit
bad_at_start = refl

-- 61 FF at offset 5: and 3 is a place.
pub ill_at_place : plain (0x61 ∷ 0xFF ∷ []) 5 5 7 ≡ ([], 3 ∷ 1 ∷ 0 ∷ [])
unfolding plain
ill_at_place = refl

-- FF 80, the span of the FF: a cut is looked for in ill-formed text too, 22.
pub cut_in_ill : plain (0xFF ∷ 0x80 ∷ []) 0 0 1 ≡ ([], 22 ∷ 0 ∷ 0 ∷ [])
unfolding plain
cut_in_ill = refl

-- 25 80, explicit: no cut at the span's two ends, so 3 at 1.
pub no_cut : explicit (0x25 ∷ 0x80 ∷ []) 0 0 2 ≡ ([], 3 ∷ 1 ∷ 0 ∷ [])
unfolding explicit
no_cut = refl

-- An empty span at the end of the text has no byte to cut before: plain 19,
pub empty_plain : plain (ascii "a") 5 6 6 ≡ ([], 19 ∷ 6 ∷ 0 ∷ [])
unfolding plain
empty_plain = refl

-- explicit 22.
pub empty_explicit : explicit (ascii "a") 5 6 6 ≡ ([], 22 ∷ 0 ∷ 0 ∷ [])
unfolding explicit
empty_explicit = refl

-- `a`, from position 6 back to 5, from 4, and up to 7: 22.
pub backwards : plain (ascii "a") 5 6 5 ≡ ([], 22 ∷ 0 ∷ 0 ∷ [])
unfolding plain
backwards = refl

pub before_offset : plain (ascii "a") 5 4 6 ≡ ([], 22 ∷ 0 ∷ 0 ∷ [])
unfolding plain
before_offset = refl

pub past_text : plain (ascii "a") 5 5 7 ≡ ([], 22 ∷ 0 ∷ 0 ∷ [])
unfolding plain
past_text = refl

-- `a` CR LF: a CR is itself here.
pub cr : plain (ascii "a\r\n") 0 0 3 ≡ ([], 20 ∷ 0 ∷ 13 ∷ [])
unfolding plain
cr = refl

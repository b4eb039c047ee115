-- 01, "Identifiers": the span's checks, its parts as `Parts` of the room `parts` says, and what is handed back.
use Rattle.std.specs.Prelude.{ℕ, ◌+◌, ◌-◌, Bool, ◌&&◌, ◌||◌, List, [], ◌∷◌, length, take, drop, ◌==◌, nat_lt, Result, Ok, Err, if◌then◌else◌}
use denote.Ref.{Bor}
use Rattle.terms.specs.Terms.{within}
use Rattle.answers.specs.declared.Place.{Place}
use Rattle.answers.specs.declared.Span.{Span}
use Rattle.answers.specs.declared.Numbers.{Numbers}
use Rattle.answers.specs.declared.Refusal.{Refusal}
use Rattle.answers.specs.Places.{place}
use Rattle.answers.specs.Refusals.{told}
use Rattle.answers.specs.Caps.{Verdict, accepted, first_of, text_verdict}
use Rattle.chars.specs.Utf8.{byte_at, on_by}
use Rattle.chars.specs.View.{chars_from}
use Rattle.parts.specs.declared.Part.{Part}
use Rattle.parts.specs.Parts.{parts_from}
use Rattle.names.specs.declared.Id.{Id}

-- The place of a span's start in a text that stands at this offset.
abbrev pub start_in : ℕ → Span → Place
start_in o span = place (span.start.0 - o)

-- The place of its end.
abbrev pub end_in : ℕ → Span → Place
end_in o span = place (span.end.0 - o)

-- A cut before a byte 80 to BF. There is no byte at the end of the text.
unfoldable pub cut : List ℕ → Place → Bool
cut s p = within 0x80 0xBF (byte_at s p)

-- 22: the span starts before the offset or behind its own end, ends past the text, or cuts a character.
unfoldable pub span_verdict : List ℕ → ℕ → Span → Verdict
span_verdict s o span =
    if nat_lt span.start.0 o || (nat_lt span.end.0 span.start.0 || (nat_lt (o + length s) span.end.0 || (cut s (start_in o span) || cut s (end_in o span))))
    then Err Refusal.BadSpan
    else accepted

-- 22 for the explicit form: no leading `%`.
unfoldable pub percent_verdict : List ℕ → ℕ → Span → Verdict
percent_verdict s o span =
    if nat_lt span.start.0 span.end.0 && byte_at s (start_in o span) == 0x25 then accepted else Err Refusal.BadSpan

-- A plain identifier: 1, 2, 22, then the parts from the span's start on.
unfoldable pub plain_verdict : List ℕ → ℕ → Span → Verdict
plain_verdict s o span =
    first_of (text_verdict o (length s))
    (first_of (span_verdict s o span) (parts_from span.start (end_in o span) Part.First (chars_from s (start_in o span))))

-- An explicit identifier: the same behind the `%`.
unfoldable pub explicit_verdict : List ℕ → ℕ → Span → Verdict
explicit_verdict s o span =
    first_of (text_verdict o (length s))
    (first_of (span_verdict s o span)
    (first_of (percent_verdict s o span) (parts_from span.start (end_in o span) Part.First (chars_from s (on_by 1 (start_in o span))))))

-- What names an identifier, from one place to another, or the refusal.
abbrev pub Named : Type 0
Named = Result Id Refusal

-- The identifier from one place to another, or the refusal.
unfoldable pub named_by : Verdict → Place → Place → Named
named_by (Ok _) first last = Ok (record { first = first; last = last })
named_by (Err f) first last = Err f

-- The plain identifier that a span names.
unfoldable pub plain_id : List ℕ → ℕ → Span → Named
plain_id s o span = named_by (plain_verdict s o span) (start_in o span) (end_in o span)

-- The explicit one: what stands behind its `%`.
unfoldable pub explicit_id : List ℕ → ℕ → Span → Named
explicit_id s o span = named_by (explicit_verdict s o span) (on_by 1 (start_in o span)) (end_in o span)

-- The part of the text that an identifier is, or the refusal.
unfoldable pub part_of : List ℕ → Named → Result (List ℕ) Refusal
part_of s (Ok id) = Ok (take (id.last.0 - id.first.0) (drop id.first.0 s))
part_of s (Err f) = Err f

-- What is lent, by its bytes.
abbrev pub bytes_of : Result (Bor (List ℕ)) Refusal → Result (List ℕ) Refusal
bytes_of (Ok part) = Ok part.now
bytes_of (Err f) = Err f

-- The three numbers of an answer, as words.
abbrev pub words : Numbers → List ℕ
words n = n.number ∷ n.position ∷ n.detail ∷ []

-- A part with 0, 0 and 0, or an empty part with the refusal's numbers.
unfoldable pub numbered : Result (List ℕ) Refusal → List ℕ × List ℕ
numbered (Ok part) = (part, 0 ∷ 0 ∷ 0 ∷ [])
numbered (Err f) = ([], words (told f))

-- What is handed back, with its numbers. `parse_id_handed` (proofs/OneAnswer.antt) says it of the function's contract.
unfoldable pub handed : List ℕ → Named → List ℕ × List ℕ
handed s named = numbered (part_of s named)

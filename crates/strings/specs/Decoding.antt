-- 01, "Strings": the value of a string that a span names, at the front of a lent buffer.
use Rattle.std.specs.Prelude.{ℕ, ◌+◌, ◌-◌, ◌&&◌, List, [], ◌++◌, length, drop, leb, eqb, Result, Ok, Err, if◌then◌else◌}
use Rattle.answers.specs.declared.Position.{Position}
use Rattle.answers.specs.declared.Span.{Span}
use Rattle.answers.specs.declared.Refusal.{Refusal}
use Rattle.answers.specs.declared.Refusal.TheVariants.{BadSpan, NoRoom}
use Rattle.answers.specs.Places.{place}
use Rattle.answers.specs.Caps.{Verdict, text_verdict}
use Rattle.chars.specs.Utf8.{byte_at}
use Rattle.chars.specs.View.{place_of, folded_from}
use Rattle.strings.specs.declared.Inside.TheVariants.{Plain}
use Rattle.strings.specs.Strings.{Gathered, bytes, refused, gather, Judged, whole, ill_at, judged}

-- A value, or none.
pub data Spelt : Type 0 where
  spelt : List ℕ → Spelt
  none : Spelt

-- Bytes are a value where they are well-formed.
unfoldable pub well_spelt : Judged → List ℕ → Spelt
well_spelt whole g = spelt g
well_spelt (ill_at k) g = none

-- The bytes gathered between the quotes, where the rule is accepted and ends exactly at this position.
unfoldable pub ending_at : ℕ → Position → Gathered → Spelt
ending_at o e (bytes g v) = if eqb (o + (place_of v).0) e.0 then well_spelt (judged g) g else none
ending_at o e (refused f) = none

-- What a span spells: it starts at a `"` of the text, and the string from there ends at its end.
unfoldable pub spelling : List ℕ → ℕ → Span → Spelt
spelling s o span =
    if leb o span.start.0 && eqb (byte_at s (place (span.start.0 - o))) 0x22
    then ending_at o span.end (gather o Plain [] (folded_from s (place (span.start.0 - o + 1))))
    else none

-- 22 where the span spells nothing, 25 where the buffer lacks room; else the value and its count, the rest of the buffer as it was.
unfoldable pub storing : Spelt → List ℕ → Result ℕ Refusal × List ℕ
storing none b = (Err BadSpan, b)
storing (spelt g) b =
    if leb (length g) (length b) then (Ok (length g), g ++ drop (length g) b) else (Err (NoRoom (length g)), b)

-- 1 and 2 go before 22 and 25, and leave the buffer as it was.
unfoldable pub decoded_by : Verdict → Spelt → List ℕ → Result ℕ Refusal × List ℕ
decoded_by (Err f) g b = (Err f, b)
decoded_by (Ok _) g b = storing g b

-- The value of a span, and the buffer.
unfoldable pub decoded : List ℕ → ℕ → Span → List ℕ → Result ℕ Refusal × List ℕ
decoded s o span b = decoded_by (text_verdict o (length s)) (spelling s o span) b

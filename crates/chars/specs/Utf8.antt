-- RFC 3629: what stands at a place of a text, and the bytes of a character.
use Rattle.std.specs.Prelude.{ℕ, ◌+◌, ◌-◌, ◌*◌, ◌/◌, ◌%◌, Bool, ◌&&◌, ◌||◌, List, [], ◌∷◌, ◌++◌, length, get_or, drop, leb, Option, None, Some, Result, Ok, Err, if◌then◌else◌}
use Rattle.terms.specs.Terms.{within, Row, ◌to◌is◌, said}
use Rattle.answers.specs.declared.Place.{Place}
use Rattle.answers.specs.declared.Ill.{Ill}
use Rattle.answers.specs.Places.{place}
use Rattle.answers.specs.Caps.{cap}
use Rattle.chars.specs.declared.Lead.{Lead}
use Rattle.chars.specs.declared.Lead.TheVariants.{Alone, Two, Three, Four, Never}

-- What stands at a place: nothing, where the text ends; an ill-formed sequence; or a character with the next place.
abbrev pub Read : Type 0
Read = Result (Option (ℕ × Place)) Ill

-- The byte at a place. Past the end it is 0, which goes on with no sequence.
unfoldable pub byte_at : List ℕ → Place → ℕ
byte_at s p = get_or s p.0 0

-- The place so many bytes further on.
abbrev pub on_by : ℕ → Place → Place
on_by n p = place (p.0 + n)

-- What a first byte starts: a sequence of one byte, or of two, three or four of which the second byte is in this range. The rows are those of RFC 3629, section 4.
unfoldable pub leads : List (Row Lead)
leads =
    0x00 to 0x7F is Alone
    ∷ 0xC2 to 0xDF is Two 0x80 0xBF
    ∷ 0xE0 to 0xE0 is Three 0xA0 0xBF ∷ 0xE1 to 0xEC is Three 0x80 0xBF ∷ 0xED to 0xED is Three 0x80 0x9F ∷ 0xEE to 0xEF is Three 0x80 0xBF
    ∷ 0xF0 to 0xF0 is Four 0x90 0xBF ∷ 0xF1 to 0xF3 is Four 0x80 0xBF ∷ 0xF4 to 0xF4 is Four 0x80 0x8F ∷ []

-- Any other first byte starts nothing.
unfoldable pub lead_of : ℕ → Lead
lead_of b = said leads Never b

-- A byte after the second (UTF8-tail).
unfoldable pub is_tail : ℕ → Bool
is_tail b = within 0x80 0xBF b

-- The ill-formed sequence that starts at a place.
abbrev pub ill_at : Place → Read
ill_at p = Err (record { at = p })

-- What the bytes b c d e at a place read as, by what b starts: a character with the next place, or an ill-formed sequence.
unfoldable pub char_by : Place → ℕ → ℕ → ℕ → ℕ → Lead → Read
char_by p b c d e Alone = Ok (Some (b, on_by 1 p))
char_by p b c d e (Two low high) =
    if within low high c then Ok (Some ((b - 0xC0) * 64 + (c - 0x80), on_by 2 p)) else ill_at p
char_by p b c d e (Three low high) =
    if within low high c && is_tail d
    then Ok (Some ((b - 0xE0) * 4096 + (c - 0x80) * 64 + (d - 0x80), on_by 3 p))
    else ill_at p
char_by p b c d e (Four low high) =
    if within low high c && (is_tail d && is_tail e)
    then Ok (Some ((b - 0xF0) * 262144 + (c - 0x80) * 4096 + (d - 0x80) * 64 + (e - 0x80), on_by 4 p))
    else ill_at p
char_by p b c d e Never = ill_at p

-- What stands at a place of a text. Each call refuses a text longer than the cap before it reads (refusal 1), so nothing is read at or past the cap.
unfoldable pub char_at : List ℕ → Place → Read
char_at s p =
    if leb (length s) p.0 || leb cap p.0 then Ok None
    else char_by p (byte_at s p) (byte_at s (on_by 1 p)) (byte_at s (on_by 2 p)) (byte_at s (on_by 3 p)) (lead_of (byte_at s p))

-- The numbers that are characters: no surrogate, nothing above U+10FFFF.
unfoldable pub is_scalar : ℕ → Bool
is_scalar c = leb c 0xD7FF || within 0xE000 0x10FFFF c

-- The bytes of a character.
unfoldable pub encode : ℕ → List ℕ
encode c =
    if leb c 0x7F then c ∷ []
    else (if leb c 0x7FF then (0xC0 + c / 64) ∷ (0x80 + c % 64) ∷ []
    else (if leb c 0xFFFF then (0xE0 + c / 4096) ∷ (0x80 + c / 64 % 64) ∷ (0x80 + c % 64) ∷ []
    else (0xF0 + c / 262144) ∷ (0x80 + c / 4096 % 64) ∷ (0x80 + c / 64 % 64) ∷ (0x80 + c % 64) ∷ []))

-- The bytes of a character at the front of a buffer, counted; no character, or no room, leaves the buffer as it was, and nothing is counted.
unfoldable pub encoded : ℕ → List ℕ → Option ℕ × List ℕ
encoded c buffer =
    if is_scalar c && leb (length (encode c)) (length buffer)
    then (Some (length (encode c)), encode c ++ drop (length (encode c)) buffer)
    else (None, buffer)

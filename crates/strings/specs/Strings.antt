-- 01, "Strings": one walk over the characters behind the opening quote; then the gathered bytes are checked.
use Rattle.std.specs.Prelude.{ℕ, ◌+◌, ◌*◌, true, false, ◌||◌, List, [], ◌∷◌, ◌++◌, length, leb, ltb, eqb, if◌then◌else◌}
use Rattle.std.specs.Prelude.{Option, None, Some, Result, Ok, Err}
use Rattle.std.specs.Option.{option_map_or}
use Rattle.terms.specs.Terms.{Row, ◌to◌is◌, said}
use Rattle.answers.specs.declared.Place.{Place}
use Rattle.answers.specs.declared.Position.{Position}
use Rattle.answers.specs.declared.Refusal.{Refusal}
use Rattle.answers.specs.declared.Refusal.TheVariants.{IllFormed, InvalidStringElement, InvalidStringEscape, WantedChar, UnexpectedEof, InvalidUtf8, NumberTooBig, LoneUnderscore, InvalidHexDigit, InvalidUnicodeValue}
use Rattle.answers.specs.Places.{place, in_map}
use Rattle.chars.specs.Utf8.{is_scalar, encode}
use Rattle.chars.specs.View.{Chars, end, ill, char, place_of, chars_from, folded_from}
use Rattle.chars.specs.Hex.{to_hex}
use Rattle.strings.specs.declared.Digits.{Digits}
use Rattle.strings.specs.declared.Inside.{Inside}
use Rattle.strings.specs.declared.Inside.TheVariants.{Plain, Escape, Half, Brace, First, Number}
use Rattle.strings.specs.declared.More.{More}
use Rattle.strings.specs.declared.More.TheVariants.{One, Whole}
use Rattle.strings.specs.declared.Turn.{Turn}
use Rattle.strings.specs.declared.Turn.TheVariants.{On, Close}
use Rattle.strings.specs.declared.Literal.{Literal}

-- What is written behind a backslash, and the character that it stands for: `\"` `\'` `\\` `\t` `\n` `\r`.
unfoldable pub simples : List (Row (Option ℕ))
simples =
    0x22 to 0x22 is Some 0x22 ∷ 0x27 to 0x27 is Some 0x27 ∷ 0x5C to 0x5C is Some 0x5C
    ∷ 0x74 to 0x74 is Some 9 ∷ 0x6E to 0x6E is Some 10 ∷ 0x72 to 0x72 is Some 13 ∷ []

-- The character that one behind a backslash stands for, if any.
unfoldable pub simple_of : ℕ → Option ℕ
simple_of c = said simples None c

-- The walk goes on from there, and nothing is gathered.
abbrev pub on : Inside → Result Turn Refusal
on i = Ok (On i None)

-- The walk goes on between characters, and this is gathered.
abbrev pub adds : More → Result Turn Refusal
adds m = Ok (On Plain (Some m))

-- The character c at place p, between characters: a bare `"` closes; a character below U+0020, or U+007F, is 10.
unfoldable pub plain_turn : Place → ℕ → Result Turn Refusal
plain_turn p c =
    if eqb c 0x22 then Ok Close
    else (if eqb c 0x5C then on Escape
    else (if ltb c 0x20 || eqb c 0x7F then Err (InvalidStringElement p c)
    else adds (Whole c)))

-- Behind a backslash: `u`, the first of two hexadecimal digits, a simple escape; else 11.
unfoldable pub escape_turn : Place → ℕ → Result Turn Refusal
escape_turn p c =
    if eqb c 0x75 then on (Brace p)
    else option_map_or (λ h. on (Half h)) (to_hex c) (option_map_or (λ d. adds (Whole d)) (simple_of c) (Err (InvalidStringEscape p c)))

-- The second of two hexadecimal digits; else 17.
unfoldable pub half_turn : ℕ → Place → ℕ → Result Turn Refusal
half_turn h p c = option_map_or (λ d. adds (One (h * 16 + d))) (to_hex c) (Err (InvalidHexDigit p c))

-- Behind `\u`: `{`; else 12.
unfoldable pub brace_turn : Place → Place → ℕ → Result Turn Refusal
brace_turn u p c = if eqb c 0x7B then on (First u) else Err (WantedChar p 0x7B)

-- Behind `\u{`: a hexadecimal digit; else 17.
unfoldable pub first_turn : Place → Place → ℕ → Result Turn Refusal
first_turn u p c =
    option_map_or (λ d. on (Number (record { u = u; first = p; value = d; lone = false }))) (to_hex c) (Err (InvalidHexDigit p c))

-- A digit more of the number: 15 where it overflows.
unfoldable pub digit_turn : Digits → Place → ℕ → Result Turn Refusal
digit_turn k p d =
    if leb (k.value * 16 + d) 0xFFFFFFFF then on (Number (record { u = k.u; first = k.first; value = k.value * 16 + d; lone = false }))
    else Err (NumberTooBig p)

-- Behind the number: 16 if an underscore came last, then 18, then `}` is wanted.
unfoldable pub end_turn : Digits → Place → ℕ → Result Turn Refusal
end_turn k p c =
    if k.lone then Err (LoneUnderscore k.first)
    else (if is_scalar k.value then (if eqb c 0x7D then adds (Whole k.value) else Err (WantedChar p 0x7D))
    else Err (InvalidUnicodeValue k.u k.value))

-- In the number: digits and underscores; another character ends it.
unfoldable pub number_turn : Digits → Place → ℕ → Result Turn Refusal
number_turn k p c =
    if eqb c 0x5F then on (Number (record { u = k.u; first = k.first; value = k.value; lone = true }))
    else option_map_or (digit_turn k p) (to_hex c) (end_turn k p c)

-- What one character does, by where in a string it stands.
unfoldable pub turn_of : Inside → Place → ℕ → Result Turn Refusal
turn_of Plain p c = plain_turn p c
turn_of Escape p c = escape_turn p c
turn_of (Half h) p c = half_turn h p c
turn_of (Brace u) p c = brace_turn u p c
turn_of (First u) p c = first_turn u p c
turn_of (Number k) p c = number_turn k p c

-- The bytes of what a turn adds.
unfoldable pub added : More → List ℕ
added (One b) = b ∷ []
added (Whole c) = encode c

-- The bytes that a turn adds, if any.
abbrev pub added_of : Option More → List ℕ
added_of m = option_map_or added m []

-- A string's bytes and what is left behind its closing quote, or the refusal.
pub data Gathered : Type 0 where
  bytes : List ℕ → Chars → Gathered
  refused : Refusal → Gathered

-- A turn goes on with its bytes added, ends the string, or refuses it.
unfoldable pub gather_on : Result Turn Refusal → List ℕ → Chars → (Inside → List ℕ → Gathered) → Gathered
gather_on (Ok (On i more)) g v next = next i (g ++ added_of more)
gather_on (Ok Close) g v next = bytes g v
gather_on (Err f) g v next = refused f

-- Gathered left to right, with the bytes g so far, until a bare `"`; 13 where the text ends first, 3 at an ill-formed sequence.
unfoldable pub gather : ℕ → Inside → List ℕ → Chars → Gathered
gather o i g (end p) = refused (UnexpectedEof (in_map o p))
gather o i g (ill s) = refused (IllFormed s)
gather o i g (char p c v) = gather_on (turn_of i p c) g v (λ j h. gather o j h v)

-- Whether some bytes are well-formed, or where among them the first ill-formed sequence starts.
pub data Judged : Type 0 where
  whole : Judged
  ill_at : ℕ → Judged

-- The first ill-formed sequence of a view.
unfoldable pub first_ill : Chars → Judged
first_ill (end p) = whole
first_ill (ill s) = ill_at s.at.0
first_ill (char p c v) = first_ill v

-- Some bytes, read as a text of their own.
unfoldable pub judged : List ℕ → Judged
judged g = first_ill (chars_from g (place 0))

-- The answer for n bytes so judged, closed before the place m: 14 at the opening quote's position q.
unfoldable pub closed_by : Position → ℕ → Judged → Place → Result Literal Refusal
closed_by q n whole m = Ok (record { end = m; count = n })
closed_by q n (ill_at k) m = Err (InvalidUtf8 q k)

-- The rule's answer by what was gathered.
unfoldable pub literal_of : Position → Gathered → Result Literal Refusal
literal_of q (bytes g v) = closed_by q (length g) (judged g) (place_of v)
literal_of q (refused f) = Err f

-- The string rule from place p on, behind an opening quote at position q.
unfoldable pub string_literal : List ℕ → ℕ → Position → Place → Result Literal Refusal
string_literal s o q p = literal_of q (gather o Plain [] (folded_from s p))

-- The definitions tried on 01's cases, and on inputs where 01 could be read in two ways. Each text stands at offset 7 of the map.
use Prim.Native.Nat.{ℕ}
use mathlib.Core.Path.{◌≡◌, refl}
use mathlib.Core.List.{List, [], ◌∷◌, ◌++◌}
use Rattle.terms.specs.Terms.{said, within, ascii}
use Rattle.answers.specs.declared.Place.{Place}
use Rattle.answers.specs.Places.{place, in_map}
use Rattle.answers.specs.Caps.{first_of, length_verdict, map_verdict, text_verdict}
use Rattle.answers.specs.declared.Refusal.TheVariants.{IllFormed, InvalidStringElement, InvalidStringEscape, WantedChar, UnexpectedEof}
use Rattle.answers.specs.declared.Refusal.TheVariants.{InvalidUtf8, NumberTooBig, LoneUnderscore, InvalidHexDigit, InvalidUnicodeValue}
use Rattle.answers.specs.declared.Refusal.TheVariants.{BadSpan, NoRoom}
use Rattle.chars.specs.Utf8.{byte_at, leads, lead_of, is_tail, char_by, char_at, is_scalar, encode}
use Rattle.chars.specs.View.{Chars, place_of, seen_at, seen_by, chars_from, folded, folded_at, folded_from}
use Rattle.chars.specs.Hex.{hex_digits, to_hex}
use Rattle.strings.specs.declared.Inside.{Inside}
use Rattle.strings.specs.declared.Turn.{Turn}
use Rattle.strings.specs.declared.Literal.{Literal}
use Rattle.std.specs.Prelude.{Result, Ok, Err}
use Rattle.answers.specs.declared.Refusal.{Refusal}
use Rattle.strings.specs.Strings.{simples, simple_of, plain_turn, escape_turn, half_turn, brace_turn, first_turn, digit_turn, end_turn, number_turn, turn_of}
use Rattle.strings.specs.Strings.{added, gather_on, gather, first_ill, judged, closed_by, literal_of, string_literal}
use Rattle.strings.specs.Decoding.{well_spelt, ending_at, spelling, storing, decoded_by, decoded}

-- The characters behind the quote at place 0.
unfoldable pub characters : List ℕ → Chars
unfolding folded_from folded_at folded chars_from seen_by seen_at place_of char_at char_by is_scalar encode is_tail lead_of leads byte_at in_map said within ascii
characters s = folded_from s (place 1)

-- The turn of one of them.
unfoldable pub turn : Inside → Place → ℕ → Result Turn Refusal
unfolding turn_of plain_turn escape_turn half_turn brace_turn first_turn digit_turn end_turn number_turn simple_of simples to_hex hex_digits
turn i p c = turn_of i p c

-- A string that is closed before place m, with n bytes.
abbrev pub closed : Place → ℕ → Result Literal Refusal
closed m n = Ok (record { end = m; count = n })

-- The string rule over them.
unfoldable pub of : List ℕ → Result Literal Refusal
unfolding characters turn string_literal literal_of closed_by judged first_ill gather gather_on added
of s = string_literal s 7 (record { 0 = 7 }) (place 1)

-- P5: "\u{1_}" is 16 at the first digit.
pub p5 : of (ascii "\"\\u{1_}\"") ≡ Err (LoneUnderscore (place 4))
unfolding of
p5 = refl

-- P6: "\u{ffff_ffff}" is 18 at the `u`.
pub p6 : of (ascii "\"\\u{ffff_ffff}\"") ≡ Err (InvalidUnicodeValue (place 2) 4294967295)
unfolding of
p6 = refl

-- P7: "\u{0h" is 12, and `}` is wanted.
pub p7 : of (ascii "\"\\u{0h\"") ≡ Err (WantedChar (place 5) 125)
unfolding of
p7 = refl

-- P8: "\c3\a9" has two bytes.
pub p8 : of (ascii "\"\\c3\\a9\"") ≡ closed (place 8) 2
unfolding of
p8 = refl

-- "\u{}" is 17 at the brace.
pub no_digit : of (ascii "\"\\u{}\"") ≡ Err (InvalidHexDigit (place 4) 125)
unfolding of
no_digit = refl

-- "\u{_1}" is 17: a digit comes first.
pub underscore_first : of (ascii "\"\\u{_1}\"") ≡ Err (InvalidHexDigit (place 4) 95)
unfolding of
underscore_first = refl

-- "\u{d800_}": 16 goes before 18.
pub underscore_before_scalar : of (ascii "\"\\u{d800_}\"") ≡ Err (LoneUnderscore (place 4))
unfolding of
underscore_before_scalar = refl

-- "\u{110000h: 18 goes before 12.
pub scalar_before_brace : of (ascii "\"\\u{110000h") ≡ Err (InvalidUnicodeValue (place 2) 1114112)
unfolding of
scalar_before_brace = refl

-- "\u{1_: the text's end is 13 even behind an underscore, at the offset and the whole length.
pub end_behind_underscore : of (ascii "\"\\u{1_") ≡ Err (UnexpectedEof (record { 0 = 13 }))
unfolding of
end_behind_underscore = refl

-- "\u{110000: it is 13 behind any number.
pub end_behind_number : of (ascii "\"\\u{110000") ≡ Err (UnexpectedEof (record { 0 = 17 }))
unfolding of
end_behind_number = refl

-- "\: and behind a backslash.
pub end_behind_backslash : of (ascii "\"\\") ≡ Err (UnexpectedEof (record { 0 = 9 }))
unfolding of
end_behind_backslash = refl

-- "\u{100000000}" is 15 at the digit that overflows.
pub number_too_big : of (ascii "\"\\u{100000000}\"") ≡ Err (NumberTooBig (place 12))
unfolding of
number_too_big = refl

-- " CR LF " is 10: one newline, at the CR's place.
pub newline_raw : of (ascii "\"\r\n\"") ≡ Err (InvalidStringElement (place 1) 10)
unfolding of
newline_raw = refl

-- "\ CR LF is 11 so.
pub newline_escaped : of (ascii "\"\\\r\n\"") ≡ Err (InvalidStringEscape (place 2) 10)
unfolding of
newline_escaped = refl

-- "\u{ CR LF is 17 so.
pub newline_for_digit : of (ascii "\"\\u{\r\n") ≡ Err (InvalidHexDigit (place 4) 10)
unfolding of
newline_for_digit = refl

-- " CR ": a lone CR is itself.
pub lone_cr : of (ascii "\"\r\"") ≡ Err (InvalidStringElement (place 1) 13)
unfolding of
lone_cr = refl

-- " CR FF: and so is one before an ill-formed byte.
pub cr_before_ill : of (ascii "\"\r" ++ 255 ∷ []) ≡ Err (InvalidStringElement (place 1) 13)
unfolding of
cr_before_ill = refl

-- "DEL": U+007F is 10.
pub delete : of (34 ∷ 127 ∷ 34 ∷ []) ≡ Err (InvalidStringElement (place 1) 127)
unfolding of
delete = refl

-- "a\ff" is 14 at the opening quote's position.
pub ill_bytes : of (ascii "\"a\\ff\"") ≡ Err (InvalidUtf8 (record { 0 = 7 }) 1)
unfolding of
ill_bytes = refl

-- "\u{e9}\ff": its detail counts gathered bytes, here the two of U+00E9.
pub ill_behind_two : of (ascii "\"\\u{e9}\\ff\"") ≡ Err (InvalidUtf8 (record { 0 = 7 }) 2)
unfolding of
ill_behind_two = refl

-- "\u{1_ FF: the character behind the number is examined, so 3 goes before 16.
pub ill_before_underscore : of (ascii "\"\\u{1_" ++ 255 ∷ []) ≡ Err (IllFormed (record { at = place 6 }))
unfolding of
ill_before_underscore = refl

-- "\u{d800 FF: and before 18.
pub ill_before_scalar : of (ascii "\"\\u{d800" ++ 255 ∷ []) ≡ Err (IllFormed (record { at = place 8 }))
unfolding of
ill_before_scalar = refl

-- "" FF: what stands behind the closing quote is not examined.
pub ill_behind_quote : of (ascii "\"\"" ++ 255 ∷ []) ≡ closed (place 2) 0
unfolding of
ill_behind_quote = refl

-- "\h" is 11 behind the backslash.
pub bad_escape : of (ascii "\"\\h\"") ≡ Err (InvalidStringEscape (place 2) 104)
unfolding of
bad_escape = refl

-- Decoding the span from one place to another into a buffer of three bytes, 1, 2 and 3.
unfoldable pub into : List ℕ → ℕ → ℕ → Result ℕ Refusal × List ℕ
unfolding of decoded decoded_by storing spelling ending_at well_spelt text_verdict length_verdict map_verdict first_of
into s from last = decoded s 7 (record { start = in_map 7 (place from); end = in_map 7 (place last) }) (1 ∷ 2 ∷ 3 ∷ [])

-- P8: the value of "\c3\a9" is C3 A9, and the rest of the buffer stays.
pub p8_value : into (ascii "\"\\c3\\a9\"") 0 8 ≡ (Ok 2, 0xC3 ∷ 0xA9 ∷ 3 ∷ [])
unfolding into
p8_value = refl

-- "\u{1_}": a refusal of the string rule is 22.
pub rule_refused : into (ascii "\"\\u{1_}\"") 0 8 ≡ (Err BadSpan, 1 ∷ 2 ∷ 3 ∷ [])
unfolding into
rule_refused = refl

-- " FF ": also 3.
pub ill_refused : into (34 ∷ 255 ∷ 34 ∷ []) 0 3 ≡ (Err BadSpan, 1 ∷ 2 ∷ 3 ∷ [])
unfolding into
ill_refused = refl

-- "\ff": also 14.
pub bytes_refused : into (ascii "\"\\ff\"") 0 5 ≡ (Err BadSpan, 1 ∷ 2 ∷ 3 ∷ [])
unfolding into
bytes_refused = refl

-- A span that ends one byte early is 22.
pub end_early : into (ascii "\"a\"") 0 2 ≡ (Err BadSpan, 1 ∷ 2 ∷ 3 ∷ [])
unfolding into
end_early = refl

-- 22 C2 85 22: decoding does not screen.
pub unscreened : into (34 ∷ 0xC2 ∷ 0x85 ∷ 34 ∷ []) 0 4 ≡ (Ok 2, 0xC2 ∷ 0x85 ∷ 3 ∷ [])
unfolding into
unscreened = refl

-- "a"b", from place 2 on: any quote may open it, also one that closes another string.
pub any_quote : into (ascii "\"a\"b\"") 2 5 ≡ (Ok 1, 98 ∷ 2 ∷ 3 ∷ [])
unfolding into
any_quote = refl

-- 22 EF BB BF 22: a raw U+FEFF behind the quote is kept.
pub mark_kept : into (34 ∷ 0xEF ∷ 0xBB ∷ 0xBF ∷ 34 ∷ []) 0 5 ≡ (Ok 3, 0xEF ∷ 0xBB ∷ 0xBF ∷ [])
unfolding into
mark_kept = refl

-- "abcd": 25 where the buffer is one byte short.
pub no_room : into (ascii "\"abcd\"") 0 6 ≡ (Err (NoRoom 4), 1 ∷ 2 ∷ 3 ∷ [])
unfolding into
no_room = refl

-- "abc": and just enough room.
pub just_room : into (ascii "\"abc\"") 0 5 ≡ (Ok 3, 97 ∷ 98 ∷ 99 ∷ [])
unfolding into
just_room = refl

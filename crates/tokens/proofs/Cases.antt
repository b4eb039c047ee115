-- The definitions tried on 01's cases, and on inputs where 01 could be read in two ways.
use Prim.Native.Nat.{ℕ}
use mathlib.Core.Path.{◌≡◌, refl}
use mathlib.Core.List.{List, [], ◌∷◌, ◌++◌}
use Rattle.terms.specs.Terms.{said, within, same_bytes, ascii}
use Rattle.answers.specs.Places.{place, in_map}
use Rattle.answers.specs.declared.Refusal.TheVariants.{IllFormed, Unexpected, UnterminatedComment, InvalidStringElement}
use Rattle.chars.specs.Utf8.{byte_at, leads, lead_of, is_tail, char_by, char_at, encode}
use Rattle.chars.specs.View.{place_of, seen_at, seen_by, chars_from, folded, folded_at, folded_from}
use Rattle.classes.specs.Ranges.{member}
use Rattle.classes.specs.XidStart.{xid_starts}
use Rattle.classes.specs.XidContinue.{xid_continues}
use Rattle.classes.specs.Classes.{xid_start, xid_continue, keylike_start, keylike_continue}
use Rattle.strings.specs.Strings.{plain_turn, turn_of, added, gather_on, gather, first_ill, judged, closed_by, literal_of, string_literal}
use Rattle.kinds.specs.declared.Token.{Token}
use Rattle.kinds.specs.Keywords.{keywords, key_in, keyword}
use Rattle.runs.specs.Comments.{blank, digit, run, line_comment, seen, block_turn, block_on, block_comment}
use Rattle.std.specs.Prelude.{Some, Ok, Err}
use Rattle.tokens.specs.Tokens.{Raw, rules, rule_of, as_token, slash_rule, dash_rule, percent_rule, as_word, as_string, lexed_by, spanned, raw_of, raw_at}

-- The raw token at a place of a text that stands at this offset.
unfoldable pub at : List ℕ → ℕ → ℕ → Raw
unfolding raw_at raw_of spanned lexed_by as_string as_word percent_rule dash_rule slash_rule as_token rule_of rules
    block_comment block_on block_turn seen line_comment run digit blank keyword key_in keywords
    string_literal literal_of closed_by judged first_ill gather gather_on added turn_of plain_turn
    keylike_continue keylike_start xid_continue xid_continues xid_start xid_starts member
    folded_from folded_at folded chars_from seen_by seen_at place_of char_at char_by encode is_tail lead_of leads byte_at
    in_map said within same_bytes ascii
at s o p = raw_at s o (place p)

-- A token of this kind from one position to another, with the place behind it.
abbrev pub token : Token → ℕ → ℕ → ℕ → Raw
token kind from last n =
    Ok (Some (record { kind = kind; span = record { start = record { 0 = from }; end = record { 0 = last } }; next = place n }))

-- P2: `a->b` at offset 10 is `a-`,
pub p2_first : at (ascii "a->b") 10 0 ≡ token Token.Id 10 12 2
unfolding at
p2_first = refl

-- then `>`,
pub p2_second : at (ascii "a->b") 10 2 ≡ token Token.GreaterThan 12 13 3
unfolding at
p2_second = refl

-- then `b`.
pub p2_third : at (ascii "a->b") 10 3 ≡ token Token.Id 13 14 4
unfolding at
p2_third = refl

-- P3: `/*/` is 8 at 0.
pub p3 : at (ascii "/*/") 0 0 ≡ Err (UnterminatedComment (record { 0 = 0 }))
unfolding at
p3 = refl

-- P4: a CR LF b is `a`,
pub p4_first : at (ascii "a\r\nb") 0 0 ≡ token Token.Id 0 1 1
unfolding at
p4_first = refl

-- then a blank of two bytes,
pub p4_second : at (ascii "a\r\nb") 0 1 ≡ token Token.Whitespace 1 3 3
unfolding at
p4_second = refl

-- then `b`.
pub p4_third : at (ascii "a\r\nb") 0 3 ≡ token Token.Id 3 4 4
unfolding at
p4_third = refl

-- P11: a lone CR is 7 at 0.
pub p11 : at (ascii "\r") 0 0 ≡ Err (Unexpected (record { 0 = 0 }) 13)
unfolding at
p11 = refl

-- 61 CE BB: a Greek letter goes on a word,
pub greek_in_word : at (0x61 ∷ 0xCE ∷ 0xBB ∷ []) 5 0 ≡ token Token.Id 5 8 3
unfolding at
greek_in_word = refl

-- CE BB: begins one,
pub greek_first : at (0xCE ∷ 0xBB ∷ []) 5 0 ≡ token Token.Id 5 7 2
unfolding at
greek_first = refl

-- % CE BB: and begins one behind `%`.
pub greek_behind_percent : at (0x25 ∷ 0xCE ∷ 0xBB ∷ []) 5 0 ≡ token Token.ExplicitId 5 8 3
unfolding at
greek_behind_percent = refl

-- CC 81: a combining mark begins no word, so it is 7,
pub mark_first : at (0xCC ∷ 0x81 ∷ []) 5 0 ≡ Err (Unexpected (record { 0 = 5 }) 0x301)
unfolding at
mark_first = refl

-- 61 CC 81: but goes on one.
pub mark_in_word : at (0x61 ∷ 0xCC ∷ 0x81 ∷ []) 5 0 ≡ token Token.Id 5 8 3
unfolding at
mark_in_word = refl

-- CB 82: U+02C2, the first character above the short rule, is 7,
pub above_first : at (0xCB ∷ 0x82 ∷ []) 5 0 ≡ Err (Unexpected (record { 0 = 5 }) 0x2C2)
unfolding at
above_first = refl

-- 61 CB 82: and ends a word.
pub above_ends_word : at (0x61 ∷ 0xCB ∷ 0x82 ∷ []) 5 0 ≡ token Token.Id 5 6 1
unfolding at
above_ends_word = refl

-- 1 CE BB: it ends a run of digits.
pub greek_behind_digit : at (0x31 ∷ 0xCE ∷ 0xBB ∷ []) 5 0 ≡ token Token.Integer 5 6 1
unfolding at
greek_behind_digit = refl

-- EF BB BF: a token over a byte order mark is 7.
pub mark : at (0xEF ∷ 0xBB ∷ 0xBF ∷ []) 0 0 ≡ Err (Unexpected (record { 0 = 0 }) 0xFEFF)
unfolding at
mark = refl

-- 00 is 7: a token is not screened,
pub control : at (0 ∷ []) 0 0 ≡ Err (Unexpected (record { 0 = 0 }) 0)
unfolding at
control = refl

-- C5 89: and U+0149 is an Id.
pub deprecated : at (0xC5 ∷ 0x89 ∷ []) 0 0 ≡ token Token.Id 0 2 2
unfolding at
deprecated = refl

-- C3 A9 from place 1 on: inside a character it is 3.
pub inside_character : at (0xC3 ∷ 0xA9 ∷ []) 5 1 ≡ Err (IllFormed (record { at = place 1 }))
unfolding at
inside_character = refl

-- CR FF: a CR before an ill-formed byte is a lone CR, 7,
pub cr_before_ill : at (13 ∷ 255 ∷ []) 0 0 ≡ Err (Unexpected (record { 0 = 0 }) 13)
unfolding at
cr_before_ill = refl

-- 20 CR FF: or it ends a run,
pub cr_ends_run : at (0x20 ∷ 13 ∷ 255 ∷ []) 0 0 ≡ token Token.Whitespace 0 1 1
unfolding at
cr_ends_run = refl

-- " CR FF: or it is 10 in a string.
pub cr_in_string : at (0x22 ∷ 13 ∷ 255 ∷ []) 0 0 ≡ Err (InvalidStringElement (place 1) 13)
unfolding at
cr_in_string = refl

-- - FF, / FF and % FF: the next character is examined.
pub ill_behind_dash : at (0x2D ∷ 255 ∷ []) 5 0 ≡ Err (IllFormed (record { at = place 1 }))
unfolding at
ill_behind_dash = refl

pub ill_behind_slash : at (0x2F ∷ 255 ∷ []) 5 0 ≡ Err (IllFormed (record { at = place 1 }))
unfolding at
ill_behind_slash = refl

pub ill_behind_percent : at (0x25 ∷ 255 ∷ []) 5 0 ≡ Err (IllFormed (record { at = place 1 }))
unfolding at
ill_behind_percent = refl

-- a FF, 1 FF and 20 FF: so is the one that ends a run.
pub ill_behind_word : at (0x61 ∷ 255 ∷ []) 5 0 ≡ Err (IllFormed (record { at = place 1 }))
unfolding at
ill_behind_word = refl

pub ill_behind_digit : at (0x31 ∷ 255 ∷ []) 5 0 ≡ Err (IllFormed (record { at = place 1 }))
unfolding at
ill_behind_digit = refl

pub ill_behind_blank : at (0x20 ∷ 255 ∷ []) 5 0 ≡ Err (IllFormed (record { at = place 1 }))
unfolding at
ill_behind_blank = refl

-- = FF: what follows another mark is not examined,
pub ill_behind_equals : at (0x3D ∷ 255 ∷ []) 5 0 ≡ token Token.Equals 5 6 1
unfolding at
ill_behind_equals = refl

-- -> FF: nor what follows `->`,
pub ill_behind_arrow : at (ascii "->" ++ 255 ∷ []) 5 0 ≡ token Token.RArrow 5 7 2
unfolding at
ill_behind_arrow = refl

-- "" FF: nor what follows a closing quote,
pub ill_behind_quote : at (ascii "\"\"" ++ 255 ∷ []) 5 0 ≡ token Token.StringLiteral 5 7 2
unfolding at
ill_behind_quote = refl

-- /**/ FF: nor what follows `*/`,
pub ill_behind_block : at (ascii "/**/" ++ 255 ∷ []) 5 0 ≡ token Token.Comment 5 9 4
unfolding at
ill_behind_block = refl

-- // LF FF: nor what follows the newline of `//`.
pub ill_behind_line : at (ascii "//\n" ++ 255 ∷ []) 5 0 ≡ token Token.Comment 5 8 3
unfolding at
ill_behind_line = refl

-- /*/**/*/: block comments nest.
pub nested : at (ascii "/*/**/*/") 5 0 ≡ token Token.Comment 5 13 8
unfolding at
nested = refl

-- `%->x` is `%-`, then `>`.
pub percent_dash : at (ascii "%->x") 0 0 ≡ token Token.ExplicitId 0 2 2
unfolding at
percent_dash = refl

pub percent_dash_then : at (ascii "%->x") 0 2 ≡ token Token.GreaterThan 2 3 3
unfolding at
percent_dash_then = refl

-- `-a`: `-` begins no identifier.
pub dash_word : at (ascii "-a") 0 0 ≡ token Token.Minus 0 1 1
unfolding at
dash_word = refl

-- `%1`: a digit is no keylike start, so `%` stands alone.
pub percent_digit : at (ascii "%1") 0 0 ≡ token Token.ExplicitId 0 1 1
unfolding at
percent_digit = refl

-- 01, "Errors to rule out", and others like them: a table of calls with answers that they do not get, and the one statement about it.
-- No contract of a host's function allows an answer of the table: each is one equation with the definition that computes the right one.
use Prim.Native.Nat.{ℕ}
use mathlib.Core.Path.{◌≡◌, refl, ap, ◌∙◌}
use mathlib.Core.Bool.{Bool, true, not, false≢true}
use mathlib.Core.Logic.{⊎_elim}
use mathlib.Core.List.Memᴰ
use mathlib.Core.List.{List, [], ◌∷◌, ◌++◌, map, Memᴰ}
use Rattle.terms.specs.Terms.{ascii, same_bytes}
use Rattle.terms.proofs.BytesLaws.{same_self}
use Rattle.review.proofs.Calls.{Call, lent, answered, computed}
use Rattle.review.proofs.Calls.Call.{opening, next_raw, next, eat, expect, list_raw, list}
use Rattle.review.proofs.Calls.Call.{string_literal, parse_id, parse_explicit_id, toposort, check_order, propose}

-- P12's sheet, with names `abc`: item 0 needs 1; 1 and 2 need none.
abbrev pub needy : List ℕ
needy = 3 ∷ 1 ∷ 5 ∷ 17 ∷ 21 ∷ 0 ∷ 1 ∷ 0 ∷ 1 ∷ 1 ∷ 1 ∷ 1 ∷ 0 ∷ 2 ∷ 1 ∷ 1 ∷ 0 ∷ 1 ∷ 1 ∷ 0 ∷ 0 ∷ []

-- P13's sheet, with names `abc`: 0 needs 1, 1 needs 2, 2 needs 1.
abbrev pub circle : List ℕ
circle =
    3 ∷ 3 ∷ 5 ∷ 17 ∷ 29 ∷ 0 ∷ 1 ∷ 0 ∷ 1 ∷ 1 ∷ 1 ∷ 1 ∷ 1 ∷ 2 ∷ 1 ∷ 2 ∷ 1
    ∷ 1 ∷ 1 ∷ 0 ∷ 0 ∷ 2 ∷ 1 ∷ 0 ∷ 0 ∷ 1 ∷ 1 ∷ 0 ∷ 0 ∷ []

-- P14's sheet, with names `ab`: 0 needs 1, and lists it twice.
abbrev pub twice : List ℕ
twice = 2 ∷ 2 ∷ 5 ∷ 13 ∷ 21 ∷ 0 ∷ 1 ∷ 0 ∷ 2 ∷ 1 ∷ 1 ∷ 2 ∷ 0 ∷ 1 ∷ 1 ∷ 0 ∷ 0 ∷ 1 ∷ 1 ∷ 0 ∷ 0 ∷ []

-- Items `a` and `b`: 1 needs 0, and itself.
abbrev pub selfish : List ℕ
selfish = 2 ∷ 2 ∷ 5 ∷ 13 ∷ 21 ∷ 0 ∷ 1 ∷ 0 ∷ 0 ∷ 1 ∷ 1 ∷ 0 ∷ 2 ∷ 0 ∷ 1 ∷ 0 ∷ 0 ∷ 1 ∷ 1 ∷ 0 ∷ 0 ∷ []

-- Item `a`, whose one dependency has a name behind the end of the names.
abbrev pub nameless : List ℕ
nameless = 1 ∷ 1 ∷ 5 ∷ 9 ∷ 13 ∷ 0 ∷ 1 ∷ 0 ∷ 1 ∷ 1 ∷ 1 ∷ 0 ∷ 0 ∷ []

infix 60 ◌never◌
-- A call, and what is not its answer.
pub data Wrong : Type 0 where
  ◌never◌ : Call → List ℕ → Wrong

-- The errors of 01's list, in its order.
unfoldable pub errors : List Wrong
errors =
    -- RArrow in `a->b`
    (list_raw (ascii "a->b") 10 (lent 9) never (0 ∷ 0 ∷ 0 ∷ 3 ∷ 62 ∷ 10 ∷ 11 ∷ 13 ∷ 11 ∷ 13 ∷ 62 ∷ 13 ∷ 14 ∷ []))
    -- `/*/` taken as a whole comment
    ∷ (list_raw (ascii "/*/") 0 (lent 3) never (0 ∷ 0 ∷ 0 ∷ 1 ∷ 1 ∷ 0 ∷ 3 ∷ []))
    -- a repeated dependency counted once but settled twice: item 0 is ready too early, or waits for ever; or settled once
    ∷ (toposort twice (ascii "ab") (lent 2) never (0 ∷ 0 ∷ 0 ∷ 2 ∷ 0 ∷ 1 ∷ []))
    ∷ (toposort twice (ascii "ab") (lent 2) never (30 ∷ 0 ∷ 0 ∷ 2 ∷ 9 ∷ 9 ∷ []))
    ∷ (toposort twice (ascii "ab") (lent 2) never (0 ∷ 0 ∷ 0 ∷ 1 ∷ 1 ∷ 0 ∷ []))
    -- offset added to a place
    ∷ (opening (0xFF ∷ []) 10 never (3 ∷ 10 ∷ 0 ∷ 0 ∷ []))
    ∷ (list_raw (0xFF ∷ []) 10 [] never (3 ∷ 10 ∷ 0 ∷ 0 ∷ []))
    ∷ (next (ascii "\"\t\"") 10 0 never (10 ∷ 11 ∷ 9 ∷ 0 ∷ 0 ∷ 0 ∷ 0 ∷ []))
    -- offset left off a map position
    ∷ (list_raw (ascii "$") 10 [] never (7 ∷ 0 ∷ 36 ∷ 0 ∷ []))
    ∷ (next (ascii " a") 3 0 never (0 ∷ 0 ∷ 0 ∷ 62 ∷ 1 ∷ 2 ∷ 2 ∷ []))
    ∷ (parse_id (ascii "a--b") 5 5 9 never (19 ∷ 0 ∷ 0 ∷ 0 ∷ 0 ∷ []))
    -- ready items taken first in, first out
    ∷ (toposort needy (ascii "abc") (lent 3) never (0 ∷ 0 ∷ 0 ∷ 1 ∷ 1 ∷ 2 ∷ 0 ∷ []))
    ∷ []

-- Errors in reading a text: opening, and steps.
unfoldable pub misread : List Wrong
misread =
    -- screening before UTF-8
    (opening (0x00 ∷ 0xFF ∷ []) 0 never (4 ∷ 0 ∷ 0 ∷ 0 ∷ []))
    -- an overlong form read as U+0000; a number above U+10FFFF accepted
    ∷ (opening (0xC0 ∷ 0x80 ∷ []) 0 never (4 ∷ 0 ∷ 0 ∷ 0 ∷ []))
    ∷ (opening (0xF4 ∷ 0x90 ∷ 0x80 ∷ 0x80 ∷ []) 0 never (0 ∷ 0 ∷ 0 ∷ 0 ∷ []))
    -- the last offender in place of the first; U+2069 passed
    ∷ (opening (0x00 ∷ 0xE2 ∷ 0x80 ∷ 0xAE ∷ []) 0 never (6 ∷ 1 ∷ 0x202E ∷ 0 ∷ []))
    ∷ (opening (0xE2 ∷ 0x81 ∷ 0xA9 ∷ []) 0 never (0 ∷ 0 ∷ 0 ∷ 0 ∷ []))
    -- a byte order mark not passed; a second one passed too
    ∷ (opening (0xEF ∷ 0xBB ∷ 0xBF ∷ []) 0 never (0 ∷ 0 ∷ 0 ∷ 0 ∷ []))
    ∷ (opening (0xEF ∷ 0xBB ∷ 0xBF ∷ 0xEF ∷ 0xBB ∷ 0xBF ∷ []) 0 never (0 ∷ 0 ∷ 0 ∷ 6 ∷ []))
    -- no text at the last position taken to be in the map
    ∷ (opening [] 4294967295 never (0 ∷ 0 ∷ 0 ∷ 0 ∷ []))
    -- the cursor not moved; a cursor at the end refused; the end of the text a blank
    ∷ (next_raw (ascii "=") 5 0 never (0 ∷ 0 ∷ 0 ∷ 2 ∷ 5 ∷ 6 ∷ 0 ∷ []))
    ∷ (next_raw (ascii "a") 0 1 never (23 ∷ 0 ∷ 0 ∷ 0 ∷ 0 ∷ 0 ∷ 1 ∷ []))
    ∷ (next_raw [] 0 0 never (0 ∷ 0 ∷ 0 ∷ 0 ∷ 0 ∷ 0 ∷ 0 ∷ []))
    -- a lone CR a blank; two read as one newline; CR LF not folded
    ∷ (next_raw (0x0D ∷ []) 0 0 never (0 ∷ 0 ∷ 0 ∷ 0 ∷ 0 ∷ 1 ∷ 1 ∷ []))
    ∷ (next_raw (0x0D ∷ 0x0D ∷ []) 0 0 never (0 ∷ 0 ∷ 0 ∷ 0 ∷ 0 ∷ 2 ∷ 2 ∷ []))
    ∷ (next_raw (0x0D ∷ 0x0A ∷ []) 0 0 never (7 ∷ 0 ∷ 13 ∷ 0 ∷ 0 ∷ 0 ∷ 0 ∷ []))
    -- a tab that ends blanks; a CR that ends a line comment; an open comment as an unexpected character; `1:` a number
    ∷ (next_raw (ascii " \t") 0 0 never (0 ∷ 0 ∷ 0 ∷ 0 ∷ 0 ∷ 1 ∷ 1 ∷ []))
    ∷ (next_raw (ascii "//\ra") 0 0 never (0 ∷ 0 ∷ 0 ∷ 1 ∷ 0 ∷ 3 ∷ 3 ∷ []))
    ∷ (next_raw (ascii "/*") 0 0 never (7 ∷ 0 ∷ 47 ∷ 0 ∷ 0 ∷ 0 ∷ 0 ∷ []))
    ∷ (next_raw (ascii "1:") 0 0 never (0 ∷ 0 ∷ 0 ∷ 64 ∷ 0 ∷ 2 ∷ 2 ∷ []))
    -- `%1` taken whole; `%-` cut behind the `%`
    ∷ (next_raw (ascii "%1") 0 0 never (0 ∷ 0 ∷ 0 ∷ 63 ∷ 0 ∷ 2 ∷ 2 ∷ []))
    ∷ (next_raw (ascii "%-") 0 0 never (0 ∷ 0 ∷ 0 ∷ 63 ∷ 0 ∷ 1 ∷ 1 ∷ []))
    -- words: `_a` refused, `a-` and `a9` cut, `a.` taken whole, `record` the kind of `resource`
    ∷ (next_raw (ascii "_a") 0 0 never (7 ∷ 0 ∷ 95 ∷ 0 ∷ 0 ∷ 0 ∷ 0 ∷ []))
    ∷ (next_raw (ascii "a-") 0 0 never (0 ∷ 0 ∷ 0 ∷ 62 ∷ 0 ∷ 1 ∷ 1 ∷ []))
    ∷ (next_raw (ascii "a9") 0 0 never (0 ∷ 0 ∷ 0 ∷ 62 ∷ 0 ∷ 1 ∷ 1 ∷ []))
    ∷ (next_raw (ascii "a.") 0 0 never (0 ∷ 0 ∷ 0 ∷ 62 ∷ 0 ∷ 2 ∷ 2 ∷ []))
    ∷ (next_raw (ascii "record") 0 0 never (0 ∷ 0 ∷ 0 ∷ 35 ∷ 0 ∷ 6 ∷ 6 ∷ []))
    -- other scripts: U+00D7 and U+4DFF letters; a word cut before U+00B7 or U+0300; U+4E00 of four bytes
    ∷ (next_raw (0xC3 ∷ 0x97 ∷ []) 0 0 never (0 ∷ 0 ∷ 0 ∷ 62 ∷ 0 ∷ 2 ∷ 2 ∷ []))
    ∷ (next_raw (0xE4 ∷ 0xB7 ∷ 0xBF ∷ []) 0 0 never (0 ∷ 0 ∷ 0 ∷ 62 ∷ 0 ∷ 3 ∷ 3 ∷ []))
    ∷ (next_raw (0x61 ∷ 0xC2 ∷ 0xB7 ∷ []) 0 0 never (0 ∷ 0 ∷ 0 ∷ 62 ∷ 0 ∷ 1 ∷ 1 ∷ []))
    ∷ (next_raw (0x61 ∷ 0xCC ∷ 0x80 ∷ []) 0 0 never (0 ∷ 0 ∷ 0 ∷ 62 ∷ 0 ∷ 1 ∷ 1 ∷ []))
    ∷ (next_raw (0xE4 ∷ 0xB8 ∷ 0x80 ∷ []) 0 0 never (0 ∷ 0 ∷ 0 ∷ 62 ∷ 0 ∷ 4 ∷ 4 ∷ []))
    -- in a string: no digit taken for one; 16 at the underscore; 18 at the digit; U+110000 accepted; `h` for the closing brace
    ∷ (next_raw (ascii "\"\\zz\"") 0 0 never (0 ∷ 0 ∷ 0 ∷ 19 ∷ 0 ∷ 5 ∷ 5 ∷ []))
    ∷ (next_raw (ascii "\"\\u{1_}\"") 0 0 never (16 ∷ 5 ∷ 0 ∷ 0 ∷ 0 ∷ 0 ∷ 0 ∷ []))
    ∷ (next_raw (ascii "\"\\u{d800}\"") 0 0 never (18 ∷ 4 ∷ 0xD800 ∷ 0 ∷ 0 ∷ 0 ∷ 0 ∷ []))
    ∷ (next_raw (ascii "\"\\u{110000}\"") 0 0 never (0 ∷ 0 ∷ 0 ∷ 19 ∷ 0 ∷ 12 ∷ 12 ∷ []))
    ∷ (next_raw (ascii "\"\\u{1h\"") 0 0 never (0 ∷ 0 ∷ 0 ∷ 19 ∷ 0 ∷ 7 ∷ 7 ∷ []))
    -- `=` passed over as a blank; a comment answered; the cursor moved on a refusal behind a blank; kept at the end
    ∷ (next (ascii "=a") 0 0 never (0 ∷ 0 ∷ 0 ∷ 62 ∷ 1 ∷ 2 ∷ 2 ∷ []))
    ∷ (next (ascii "/**/a") 0 0 never (0 ∷ 0 ∷ 0 ∷ 1 ∷ 0 ∷ 4 ∷ 4 ∷ []))
    ∷ (next (ascii " $") 0 0 never (7 ∷ 1 ∷ 36 ∷ 0 ∷ 0 ∷ 0 ∷ 1 ∷ []))
    ∷ (next (ascii " ") 0 0 never (0 ∷ 0 ∷ 0 ∷ 67 ∷ 0 ∷ 0 ∷ 0 ∷ []))
    -- eat: the cursor moved on no, or at the end; the offset wanted; the wanted kind not found
    ∷ (eat (ascii "a") 0 2 0 never (0 ∷ 0 ∷ 0 ∷ 67 ∷ 0 ∷ 0 ∷ 1 ∷ []))
    ∷ (eat (ascii " ") 0 62 0 never (0 ∷ 0 ∷ 0 ∷ 67 ∷ 0 ∷ 0 ∷ 1 ∷ []))
    ∷ (eat (ascii "a") 62 6 0 never (0 ∷ 0 ∷ 0 ∷ 62 ∷ 6 ∷ 7 ∷ 1 ∷ []))
    ∷ (eat (ascii "a") 0 62 0 never (0 ∷ 0 ∷ 0 ∷ 67 ∷ 0 ∷ 0 ∷ 0 ∷ []))
    -- expect: the cursor kept on 21; the kinds exchanged; another kind than 67 for the end; 22 before 23
    ∷ (expect (ascii "a") 0 2 0 never (21 ∷ 0 ∷ 574 ∷ 0 ∷ 0 ∷ 0 ∷ 0 ∷ []))
    ∷ (expect (ascii "a") 0 2 0 never (21 ∷ 0 ∷ 15874 ∷ 0 ∷ 0 ∷ 0 ∷ 1 ∷ []))
    ∷ (expect [] 0 2 0 never (21 ∷ 0 ∷ 578 ∷ 0 ∷ 0 ∷ 0 ∷ 0 ∷ []))
    ∷ (expect (ascii "a") 0 67 2 never (22 ∷ 0 ∷ 0 ∷ 0 ∷ 0 ∷ 0 ∷ 2 ∷ []))
    ∷ []

-- Errors in what is written and handed back: listings, strings, identifiers.
unfoldable pub miswritten : List Wrong
miswritten =
    -- a row's end one too far; blanks left out; the row written before 25; nothing written; the words past the rows cleared
    (list_raw (ascii ";") 0 (lent 3) never (0 ∷ 0 ∷ 0 ∷ 1 ∷ 6 ∷ 0 ∷ 2 ∷ []))
    ∷ (list_raw (ascii " ;") 0 (lent 6) never (0 ∷ 0 ∷ 0 ∷ 1 ∷ 6 ∷ 1 ∷ 2 ∷ 9 ∷ 9 ∷ 9 ∷ []))
    ∷ (list_raw (ascii ";") 0 (lent 2) never (25 ∷ 0 ∷ 3 ∷ 0 ∷ 6 ∷ 0 ∷ []))
    ∷ (list_raw (ascii ";") 0 (lent 3) never (0 ∷ 0 ∷ 0 ∷ 1 ∷ 9 ∷ 9 ∷ 9 ∷ []))
    ∷ (list_raw (ascii ";") 0 (lent 4) never (0 ∷ 0 ∷ 0 ∷ 1 ∷ 6 ∷ 0 ∷ 1 ∷ 0 ∷ []))
    -- a filtered listing with its blanks; its count dropped; 25 before a refusal that stands behind the rows
    ∷ (list (ascii " ;") 0 (lent 6) never (0 ∷ 0 ∷ 0 ∷ 2 ∷ 0 ∷ 0 ∷ 1 ∷ 6 ∷ 1 ∷ 2 ∷ []))
    ∷ (list (ascii " ;") 0 (lent 3) never (0 ∷ 0 ∷ 0 ∷ 0 ∷ 6 ∷ 1 ∷ 2 ∷ []))
    ∷ (list (ascii "; $") 0 [] never (25 ∷ 0 ∷ 3 ∷ 0 ∷ []))
    -- 25 before 22; a refusal behind what was written; part of the value written on 25; the offset left off
    ∷ (string_literal (ascii "a") 0 0 1 [] never (25 ∷ 0 ∷ 1 ∷ 0 ∷ []))
    ∷ (string_literal (ascii "\"a\"") 0 0 3 (lent 1) never (25 ∷ 0 ∷ 1 ∷ 0 ∷ 97 ∷ []))
    ∷ (string_literal (ascii "\"ab\"") 0 0 4 (lent 1) never (25 ∷ 0 ∷ 2 ∷ 0 ∷ 97 ∷ []))
    ∷ (string_literal (ascii "\"a\"") 5 5 8 (lent 1) never (22 ∷ 0 ∷ 0 ∷ 0 ∷ 9 ∷ []))
    -- the second byte of U+00E9 wrong; U+0800 in two bytes; each byte of `\c3\a9` taken for a character
    ∷ (string_literal (ascii "\"\\u{e9}\"") 0 0 8 (lent 2) never (0 ∷ 0 ∷ 0 ∷ 2 ∷ 0xC3 ∷ 0x89 ∷ []))
    ∷ (string_literal (ascii "\"\\u{800}\"") 0 0 9 (lent 3) never (0 ∷ 0 ∷ 0 ∷ 2 ∷ 0xE0 ∷ 0x80 ∷ 9 ∷ []))
    ∷ (string_literal (ascii "\"\\c3\\a9\"") 0 0 8 (lent 4) never (0 ∷ 0 ∷ 0 ∷ 4 ∷ 0xC3 ∷ 0x83 ∷ 0xC2 ∷ 0xA9 ∷ []))
    -- the length counted from the text's start; an empty part handed back; position and detail exchanged
    ∷ (parse_id (ascii " a") 0 1 2 never (0 ∷ 0 ∷ 0 ∷ 1 ∷ 2 ∷ []))
    ∷ (parse_id (ascii "a") 0 0 1 never (0 ∷ 0 ∷ 0 ∷ 1 ∷ 0 ∷ []))
    ∷ (parse_id (ascii "apple-Pear") 5 5 15 never (20 ∷ 101 ∷ 5 ∷ 0 ∷ 0 ∷ []))
    -- `a-`, `1a`, and an empty part behind sixteen letters accepted; a cut at the span's end not seen
    ∷ (parse_id (ascii "a-") 0 0 2 never (0 ∷ 0 ∷ 0 ∷ 0 ∷ 2 ∷ []))
    ∷ (parse_id (ascii "1a") 0 0 2 never (0 ∷ 0 ∷ 0 ∷ 0 ∷ 2 ∷ []))
    ∷ (parse_id (ascii "abcdefghijklmnop--q") 0 0 19 never (0 ∷ 0 ∷ 0 ∷ 0 ∷ 19 ∷ []))
    ∷ (parse_id (0x61 ∷ 0xC3 ∷ 0xA9 ∷ []) 0 0 2 never (20 ∷ 0 ∷ 0xE9 ∷ 0 ∷ 0 ∷ []))
    -- the `%` handed back; 20 behind the `%`; a name without `%` accepted
    ∷ (parse_explicit_id (ascii "%a") 0 0 2 never (0 ∷ 0 ∷ 0 ∷ 0 ∷ 2 ∷ []))
    ∷ (parse_explicit_id (ascii "%1") 0 0 2 never (20 ∷ 1 ∷ 49 ∷ 0 ∷ 0 ∷ []))
    ∷ (parse_explicit_id (ascii "a") 0 0 1 never (0 ∷ 0 ∷ 0 ∷ 0 ∷ 1 ∷ []))
    ∷ []

-- Errors in load orders.
unfoldable pub misplaced : List Wrong
misplaced =
    -- part of an order written on 30; the edge told as a position; an edge to a placed item named; a made-up settled count
    (toposort circle (ascii "abc") (lent 3) never (30 ∷ 0 ∷ 0 ∷ 0 ∷ 0 ∷ 9 ∷ 9 ∷ []))
    ∷ (toposort selfish (ascii "ab") (lent 2) never (30 ∷ 1 ∷ 0 ∷ 1 ∷ 9 ∷ 9 ∷ []))
    ∷ (toposort selfish (ascii "ab") (lent 2) never (30 ∷ 0 ∷ 0 ∷ 1 ∷ 9 ∷ 9 ∷ []))
    ∷ (toposort needy (ascii "abc") (lent 3) never (0 ∷ 0 ∷ 0 ∷ 3 ∷ 1 ∷ 0 ∷ 2 ∷ []))
    -- an edge's name outside the names looked up; room enough refused
    ∷ (toposort nameless (ascii "a") (lent 1) never (29 ∷ 0 ∷ 0 ∷ 0 ∷ 9 ∷ []))
    ∷ (toposort needy (ascii "abc") (lent 3) never (25 ∷ 0 ∷ 3 ∷ 0 ∷ 9 ∷ 9 ∷ 9 ∷ []))
    -- a short list accepted; a dependency behind its item accepted; the index one too far, or told as a position
    ∷ (check_order needy (ascii "abc") (1 ∷ []) never (0 ∷ 0 ∷ 0 ∷ []))
    ∷ (check_order needy (ascii "abc") (0 ∷ 1 ∷ 2 ∷ []) never (0 ∷ 0 ∷ 0 ∷ []))
    ∷ (check_order needy (ascii "abc") (1 ∷ 1 ∷ 2 ∷ []) never (33 ∷ 0 ∷ 2 ∷ []))
    ∷ (check_order needy (ascii "abc") (1 ∷ 1 ∷ 2 ∷ []) never (33 ∷ 1 ∷ 0 ∷ []))
    -- another order than the clerk's refused; 30 for what is no order
    ∷ (check_order needy (ascii "abc") (2 ∷ 1 ∷ 0 ∷ []) never (33 ∷ 0 ∷ 0 ∷ []))
    ∷ (check_order circle (ascii "abc") (0 ∷ 1 ∷ 2 ∷ []) never (30 ∷ 0 ∷ 0 ∷ []))
    -- the settled count not handed on; nothing offered; a refusal that is not the sorter's
    ∷ (propose needy (ascii "abc") (lent 3) never (0 ∷ 0 ∷ 0 ∷ 0 ∷ 1 ∷ 0 ∷ 2 ∷ []))
    ∷ (propose needy (ascii "abc") (lent 3) never (0 ∷ 0 ∷ 0 ∷ 1 ∷ 9 ∷ 9 ∷ 9 ∷ []))
    ∷ (propose circle (ascii "abc") (lent 3) never (33 ∷ 0 ∷ 0 ∷ 0 ∷ 9 ∷ 9 ∷ 9 ∷ []))
    ∷ []

-- The table.
unfoldable pub wrongs : List Wrong
wrongs = errors ++ misread ++ miswritten ++ misplaced

-- The answer is another one.
unfoldable pub apart : Wrong → Bool
apart (c never ns) = not (same_bytes (answered c) ns)

-- computed of every row
all_apart : map apart wrongs ≡ map (λ (w : Wrong). true) wrongs
unfolding apart wrongs errors misread miswritten misplaced computed
all_apart = refl

-- a test that every entry of a list passes is passed by each
each : {A : Type 0} (test : A → Bool) (xs : List A) → map test xs ≡ map (λ (x : A). true) xs → (x : A) → Memᴰ x xs → test x ≡ true
each test [] e x m = absurd (Memᴰ.not-nil m)
each test (y ∷ ys) e x m =
    ⊎_elim
    (λ same. ap test same ∙ cc)
    (λ later. each test ys (cc) x later)
    (Memᴰ.cases_cons m)

-- No call of the table is answered so.
pub ruled_out : (c : Call) (ns : List ℕ) → Memᴰ (c never ns) wrongs → answered c ≡ ns → ⊥
unfolding apart
ruled_out c ns row e =
    let same : same_bytes (answered c) ns ≡ true = rw e (same_self ns) in
    let other : not (same_bytes (answered c) ns) ≡ true = each apart wrongs all_apart (c never ns) row in
    false≢true (rw same at other)

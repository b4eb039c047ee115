-- 01, "Cases to reproduce": P1 to P14 as one table, and the one statement that every row holds. Each call is the C function's definition; each answer is its numbers.
use Prim.Native.Nat.{ℕ, ◌*◌}
use mathlib.Core.Path.{◌≡◌, refl}
use mathlib.Core.List.{List, [], ◌∷◌, map}
use lib.ListN.{length, take}
use Rattle.terms.specs.Terms.{first, count, member, same_bytes, ascii}
use Rattle.answers.specs.Refusals.{told, told_of}
use Rattle.strings.specs.Decoding.{decoded}
use Rattle.strings.proofs.Cases as strings
use Rattle.names.specs.Names.{plain_id, explicit_id}
use Rattle.names.proofs.Cases as names
use Rattle.kinds.specs.Kinds.{kind_of}
use Rattle.steps.specs.Steps.{is_blank}
use Rattle.steps.specs.Stream.{tokens_from, tokens_by, after_raw}
use Rattle.steps.proofs.Cases as steps
use Rattle.listing.specs.declared.Listing.{Listing}
use Rattle.listing.specs.Rows.{words_of, all_words, keeps, ahead, row_of, rows_of, rows_by, text_rows, row_words}
use Rattle.listing.specs.Listings.{tabled, listed}
use Rattle.graph.specs.Order.{placing, edges}
use Rattle.sheets.specs.Checks.{head_verdict, count_verdict, headed, runs_on, outside, shaped, shape_verdict, words_verdict, named, repeats, repeat_verdict, target_of, unlisted, target_verdict, items_verdict, sheet_verdict}
use Rattle.sheets.specs.Edges.{reaches, table}
use Rattle.clerk.specs.Sorted.{room_verdict, placed, placed_by, sorted}
use Rattle.witbox.specs.declared.CountAnswer.{CountAnswer}
use Rattle.witbox.specs.declared.NameAnswer.{NameAnswer}
use Rattle.witbox.specs.declared.SortAnswer.{SortAnswer}
use Rattle.witbox.specs.Hosts.{span, refused_count, count_of, count_numbers, name_numbers, sort_of, sort_numbers}

-- What is asked: a raw listing of a text at an offset, the value of a string literal that is the whole text, an identifier that is the whole text, a load order.
pub data Call : Type 0 where
  raw : List ℕ → ℕ → Call
  value : List ℕ → Call
  plain : List ℕ → Call
  explicit : List ℕ → Call
  order : List ℕ → List ℕ → Call

-- A lent slice with room for what the table's calls write.
abbrev pub lent : List ℕ
lent = 9 ∷ 9 ∷ 9 ∷ 9 ∷ 9 ∷ 9 ∷ 9 ∷ 9 ∷ 9 ∷ []

-- number, position, detail; then the count or the settled count, and what stands at the front of the lent slice.
unfoldable pub counts : ℕ → CountAnswer × List ℕ → List ℕ
counts each a = a.0.number ∷ a.0.position ∷ a.0.detail ∷ a.0.count ∷ take (a.0.count * each) a.1

unfoldable pub nameds : NameAnswer → List ℕ
nameds a = a.number ∷ a.position ∷ a.detail ∷ a.place ∷ a.length ∷ []

unfoldable pub sorteds : ℕ → SortAnswer × List ℕ → List ℕ
sorteds n a = a.0.number ∷ a.0.position ∷ a.0.detail ∷ a.0.settled ∷ take n a.1

-- The answer to a call.
unfoldable pub answered : Call → List ℕ
unfolding counts nameds sorteds strings.into names.plain names.explicit steps.opening listed tabled text_rows rows_by rows_of row_of ahead keeps all_words words_of is_blank kind_of tokens_from tokens_by after_raw told told_of count_numbers count_of refused_count name_numbers sort_numbers sort_of sorted placed_by placed room_verdict placing edges head_verdict count_verdict headed runs_on outside shaped shape_verdict words_verdict named repeats repeat_verdict target_of unlisted target_verdict items_verdict sheet_verdict reaches table first count member same_bytes
answered (raw s o) = counts row_words (count_numbers (listed Listing.Raw s o lent))
answered (value s) = counts 1 (count_numbers (decoded s 0 (span 0 (length s)) lent))
answered (plain s) = nameds (name_numbers (plain_id s 0 (span 0 (length s))))
answered (explicit s) = nameds (name_numbers (explicit_id s 0 (span 0 (length s))))
answered (order ws bs) = sorteds 3 (sort_numbers (sorted ws bs (9 ∷ 9 ∷ 9 ∷ [])))

infix 60 ◌gives◌
-- A row of the table.
pub data Case : Type 0 where
  ◌gives◌ : Call → List ℕ → Case

unfoldable pub asked : Case → List ℕ
asked (c gives ns) = answered c

unfoldable pub wanted : Case → List ℕ
wanted (c gives ns) = ns

-- The table.
unfoldable pub cases : List Case
cases =
    -- P1 to P4
    (raw [] 0 gives (0 ∷ 0 ∷ 0 ∷ 0 ∷ []))
    ∷ (raw (ascii "a->b") 10 gives (0 ∷ 0 ∷ 0 ∷ 3 ∷ 62 ∷ 10 ∷ 12 ∷ 12 ∷ 12 ∷ 13 ∷ 62 ∷ 13 ∷ 14 ∷ []))
    ∷ (raw (ascii "/*/") 0 gives (8 ∷ 0 ∷ 0 ∷ 0 ∷ []))
    ∷ (raw (ascii "a\r\nb") 0 gives (0 ∷ 0 ∷ 0 ∷ 3 ∷ 62 ∷ 0 ∷ 1 ∷ 0 ∷ 1 ∷ 3 ∷ 62 ∷ 3 ∷ 4 ∷ []))
    -- P5 to P8
    ∷ (raw (ascii "\"\\u{1_}\"") 0 gives (16 ∷ 4 ∷ 0 ∷ 0 ∷ []))
    ∷ (raw (ascii "\"\\u{ffff_ffff}\"") 0 gives (18 ∷ 2 ∷ 4294967295 ∷ 0 ∷ []))
    ∷ (raw (ascii "\"\\u{0h\"") 0 gives (12 ∷ 5 ∷ 125 ∷ 0 ∷ []))
    ∷ (value (ascii "\"\\c3\\a9\"") gives (0 ∷ 0 ∷ 0 ∷ 2 ∷ 0xC3 ∷ 0xA9 ∷ []))
    -- P9 to P11
    ∷ (explicit (ascii "%") gives (19 ∷ 0 ∷ 0 ∷ 0 ∷ 0 ∷ []))
    ∷ (plain (ascii "apple-Pear") gives (20 ∷ 0 ∷ 101 ∷ 0 ∷ 0 ∷ []))
    ∷ (raw (ascii "\r") 0 gives (7 ∷ 0 ∷ 13 ∷ 0 ∷ []))
    -- P12 to P14: names are the bytes of `abc`
    ∷ (order (3 ∷ 1 ∷ 5 ∷ 17 ∷ 21 ∷ 0 ∷ 1 ∷ 0 ∷ 1 ∷ 1 ∷ 1 ∷ 1 ∷ 0 ∷ 2 ∷ 1 ∷ 1 ∷ 0 ∷ 1 ∷ 1 ∷ 0 ∷ 0 ∷ []) (ascii "abc") gives (0 ∷ 0 ∷ 0 ∷ 1 ∷ 1 ∷ 0 ∷ 2 ∷ []))
    ∷ (order (3 ∷ 3 ∷ 5 ∷ 17 ∷ 29 ∷ 0 ∷ 1 ∷ 0 ∷ 1 ∷ 1 ∷ 1 ∷ 1 ∷ 1 ∷ 2 ∷ 1 ∷ 2 ∷ 1 ∷ 1 ∷ 1 ∷ 0 ∷ 0 ∷ 2 ∷ 1 ∷ 0 ∷ 0 ∷ 1 ∷ 1 ∷ 0 ∷ 0 ∷ []) (ascii "abc") gives (30 ∷ 0 ∷ 0 ∷ 0 ∷ 9 ∷ 9 ∷ 9 ∷ []))
    ∷ (order (2 ∷ 2 ∷ 5 ∷ 13 ∷ 21 ∷ 0 ∷ 1 ∷ 0 ∷ 2 ∷ 1 ∷ 1 ∷ 2 ∷ 0 ∷ 1 ∷ 1 ∷ 0 ∷ 0 ∷ 1 ∷ 1 ∷ 0 ∷ 0 ∷ []) (ascii "ab") gives (0 ∷ 0 ∷ 0 ∷ 2 ∷ 1 ∷ 0 ∷ 9 ∷ []))
    ∷ []

-- Every row holds.
pub paper : map asked cases ≡ map wanted cases
unfolding asked wanted cases answered
paper = refl

-- What the tables of this room are written in: a call of a host's function, and the numbers that its definition answers it with.
use Prim.Native.Nat.{ℕ}
use mathlib.Core.List.{List, [], ◌∷◌}
use lib.ListN.{replicate}
use Rattle.terms.specs.Terms.{first, count, member, same_bytes}
use Rattle.answers.specs.Caps.{Verdict}
use Rattle.answers.specs.Places.{place}
use Rattle.answers.specs.Caps.{first_of, length_verdict}
use Rattle.answers.specs.Refusals.{told, told_of}
use Rattle.strings.specs.Decoding.{decoded}
use Rattle.strings.proofs.Cases as strings
use Rattle.names.specs.Names.{plain_id, explicit_id}
use Rattle.names.proofs.Cases as names
use Rattle.steps.specs.declared.Moved.{Moved}
use Rattle.steps.specs.Steps.{opened, next_raw_at, next_at}
use Rattle.wants.specs.Wanted.{eat_at, expect_at}
use Rattle.wants.proofs.Cases as wants
use Rattle.listing.specs.declared.Listing.{Listing}
use Rattle.listing.specs.Rows.{words_of, all_words, keeps, ahead, row_of, rows_of, rows_by, text_rows}
use Rattle.listing.specs.Listings.{Listed, tabled, listed}
use Rattle.graph.specs.Order.{placing, edges}
use Rattle.sheets.specs.Checks.{head_verdict, count_verdict, headed, runs_on, outside, shaped, shape_verdict, words_verdict}
use Rattle.sheets.specs.Checks.{named, repeats, repeat_verdict, target_of, unlisted, target_verdict, items_verdict, sheet_verdict}
use Rattle.sheets.specs.Edges.{reaches, table}
use Rattle.clerk.specs.declared.Sorted.{Sorted}
use Rattle.clerk.specs.Sorted.{room_verdict, placed, placed_by, sorted}
use Rattle.planner.specs.Proposed.{unfit, too_early, at_fault, list_verdict, checked_order, proposed}
use Rattle.witbox.specs.declared.OpenAnswer.{OpenAnswer}
use Rattle.witbox.specs.declared.StepAnswer.{StepAnswer}
use Rattle.witbox.specs.declared.CountAnswer.{CountAnswer}
use Rattle.witbox.specs.declared.NameAnswer.{NameAnswer}
use Rattle.witbox.specs.declared.SortAnswer.{SortAnswer}
use Rattle.witbox.specs.declared.VerdictAnswer.{VerdictAnswer}
use Rattle.witbox.specs.Hosts.{span, open_numbers, refused_step, step_of, step_numbers, refused_count, count_of}
use Rattle.witbox.specs.Hosts.{count_numbers, name_numbers, sort_of, sort_numbers, verdict_numbers}

-- A call of a function of the static library, under its name without `witbox`, with what it is given in the order of its parameters.
pub data Call : Type 0 where
  opening : (text : List ℕ) (offset : ℕ) → Call
  next_raw next : (text : List ℕ) (offset cursor : ℕ) → Call
  eat expect : (text : List ℕ) (offset wanted cursor : ℕ) → Call
  list_raw list : (text : List ℕ) (offset : ℕ) (table : List ℕ) → Call
  string_literal : (text : List ℕ) (offset start end : ℕ) (buffer : List ℕ) → Call
  parse_id parse_explicit_id : (text : List ℕ) (offset start end : ℕ) → Call
  toposort check_order propose : (sheet names order : List ℕ) → Call

-- A slice that is lent, with room for so many numbers: nines.
abbrev pub lent : ℕ → List ℕ
lent n = replicate n 9

-- An answer as its numbers, in the order of the header's structs, and behind them all that the lent memory then holds.
unfoldable pub opens : OpenAnswer → List ℕ
opens a = a.number ∷ a.position ∷ a.detail ∷ a.cursor ∷ []

unfoldable pub moves : StepAnswer × ℕ → List ℕ
moves a = a.0.number ∷ a.0.position ∷ a.0.detail ∷ a.0.kind ∷ a.0.start ∷ a.0.end ∷ a.1 ∷ []

unfoldable pub counts : CountAnswer × List ℕ → List ℕ
counts a = a.0.number ∷ a.0.position ∷ a.0.detail ∷ a.0.count ∷ a.1

unfoldable pub hands : NameAnswer → List ℕ
hands a = a.number ∷ a.position ∷ a.detail ∷ a.place ∷ a.length ∷ []

unfoldable pub sorts : SortAnswer × List ℕ → List ℕ
sorts a = a.0.number ∷ a.0.position ∷ a.0.detail ∷ a.0.settled ∷ a.1

unfoldable pub judges : VerdictAnswer → List ℕ
judges a = a.number ∷ a.position ∷ a.detail ∷ []

-- The answer to a call, by the definition that the function's contract cites.
unfoldable pub answered : Call → List ℕ
unfolding opens moves counts hands sorts judges
answered (opening s o) = opens (open_numbers (opened s o))
answered (next_raw s o p) = moves (step_numbers (next_raw_at s o (place p)))
answered (next s o p) = moves (step_numbers (next_at s o (place p)))
answered (eat s o w p) = moves (step_numbers (eat_at s o w (place p)))
answered (expect s o w p) = moves (step_numbers (expect_at s o w (place p)))
answered (list_raw s o t) = counts (count_numbers (listed Listing.Raw s o t))
answered (list s o t) = counts (count_numbers (listed Listing.Filtered s o t))
answered (string_literal s o p e b) = counts (count_numbers (decoded s o (span p e) b))
answered (parse_id s o p e) = hands (name_numbers (plain_id s o (span p e)))
answered (parse_explicit_id s o p e) = hands (name_numbers (explicit_id s o (span p e)))
answered (toposort ws bs out) = sorts (sort_numbers (sorted ws bs out))
answered (check_order ws bs xs) = judges (verdict_numbers (checked_order ws bs xs))
answered (propose ws bs out) = sorts (sort_numbers (proposed ws bs out))

-- THE SAME, WITH EVERY DEFINITION OPEN, so that it computes. A helper opens what it was declared with where it is opened itself.

-- the shape of a sheet's words
unfoldable pub shape : List ℕ → List ℕ → Verdict
unfolding head_verdict count_verdict headed runs_on outside shaped shape_verdict words_verdict first_of length_verdict
shape ws bs = words_verdict ws bs

-- all of a sheet's checks
unfoldable pub checks : List ℕ → List ℕ → Verdict
unfolding shape named repeats repeat_verdict target_of unlisted target_verdict items_verdict sheet_verdict reaches table first count member same_bytes
checks ws bs = sheet_verdict ws bs

-- a sort, and a check of a list
unfoldable pub sort : List ℕ → List ℕ → List ℕ → Sorted × List ℕ
unfolding checks sorted placed_by placed room_verdict placing edges checked_order list_verdict at_fault too_early unfit proposed
sort ws bs out = sorted ws bs out

-- a listing
unfoldable pub rows : List ℕ → ℕ → List ℕ → Listed × List ℕ
unfolding wants.expect strings.into listed tabled text_rows rows_by rows_of row_of ahead keeps all_words words_of
rows s o t = listed Listing.Raw s o t

-- the numbers of an answer
unfoldable pub stepped : Moved → StepAnswer × ℕ
unfolding told told_of open_numbers refused_step step_of step_numbers name_numbers sort_numbers sort_of verdict_numbers
stepped m = step_numbers m

unfoldable pub counted : Listed × List ℕ → CountAnswer × List ℕ
unfolding count_numbers count_of refused_count
counted a = count_numbers a

-- and the answer
unfoldable pub computed : Call → List ℕ
unfolding answered names.plain names.explicit rows sort stepped counted
computed c = answered c

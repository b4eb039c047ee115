-- 01, "Dependency sheet": the answer to a sheet, and what the order slice then holds.
use Rattle.std.specs.Prelude.{ℕ, List, length, eqb, leb, if◌then◌else◌, Ok, Err}
use Rattle.terms.specs.Terms.{over}
use Rattle.answers.specs.declared.Refusal.TheVariants.{NoRoom, TypeCycle}
use Rattle.answers.specs.Caps.{first_of, Verdict, accepted}
use Rattle.graph.specs.Order.{Edge, order, settled, first_stuck}
use Rattle.sheets.specs.Words.{items}
use Rattle.sheets.specs.Checks.{sheet_verdict}
use Rattle.sheets.specs.Edges.{edges_of}
use Rattle.clerk.specs.declared.Sorted.{Sorted}

-- A verdict with a settled count.
abbrev pub answer : Verdict → ℕ → Sorted
answer v count = record { verdict = v; settled = count }

-- 25: an order slice with room for fewer words than there are items.
unfoldable pub room_verdict : List ℕ → List ℕ → Verdict
room_verdict ws out = if leb (items ws) (length out) then accepted else Err (NoRoom (items ws))

-- The clerk's order of n items at the front of the slice; or 30, by the first listed edge whose item and target both stayed unplaced, and nothing
-- written. The settled count goes with both.
unfoldable pub placed : List Edge → ℕ → List ℕ → Sorted × List ℕ
placed es n out =
    if eqb (length (order es n)) n
    then (answer accepted (settled es (order es n)), over (order es n) out)
    else (answer (Err (TypeCycle (first_stuck es (order es n)))) (settled es (order es n)), out)

-- A refusal that is met earlier has no settled count, and nothing is written.
unfoldable pub placed_by : Verdict → List Edge → ℕ → List ℕ → Sorted × List ℕ
placed_by (Ok _) es n out = placed es n out
placed_by (Err f) es n out = (answer (Err f) 0, out)

-- The checks of the sheet, 1 to 29; then 25; then the items are placed, or 30.
unfoldable pub sorted : List ℕ → List ℕ → List ℕ → Sorted × List ℕ
sorted ws bs out = placed_by (first_of (sheet_verdict ws bs) (room_verdict ws out)) (edges_of ws bs) (items ws) out

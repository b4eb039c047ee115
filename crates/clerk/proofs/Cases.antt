-- 01's cases of sheets and its readings of them, computed from the definition. Names are the bytes of `a`, `b`, `c`; the slice holds sevens before.
use Rattle.std.specs.Prelude.{Err}
use Prim.Native.Nat.{ℕ}
use mathlib.Core.Path.{◌≡◌, refl}
use mathlib.Core.List.{List, [], ◌∷◌}
use Rattle.terms.specs.Terms.{first, count, member, same_bytes}
use Rattle.answers.specs.declared.Refusal.TheVariants.{NoRoom, MalformedSheet, TooManyItems, RepeatedName, ItemNotFound, TypeCycle}
use Rattle.answers.specs.Caps.{first_of, length_verdict, accepted}
use Rattle.graph.specs.Order.{placing, edges}
use Rattle.sheets.specs.Checks.{head_verdict, count_verdict, headed, runs_on, outside, shaped, shape_verdict, words_verdict, named, repeats, repeat_verdict, target_of, unlisted, target_verdict, items_verdict, sheet_verdict}
use Rattle.sheets.specs.Edges.{reaches, table}
use Rattle.clerk.specs.declared.Sorted.{Sorted}
use Rattle.clerk.specs.Sorted.{answer, room_verdict, placed, placed_by, sorted}

-- the sheet, the names and the slice give this answer, and leave this in the slice
abbrev Gives : List ℕ → List ℕ → List ℕ → Sorted → List ℕ → Type 0
Gives ws bs out r out' = ◌≡◌ {A = Sorted × List ℕ} (sorted ws bs out) (r, out')

-- the cases, one by one
abbrev Table : Type 0
Table =
    -- P12: 0 needs 1; 1 and 2 need none
    Gives (3 ∷ 1 ∷ 5 ∷ 17 ∷ 21 ∷ 0 ∷ 1 ∷ 0 ∷ 1 ∷ 1 ∷ 1 ∷ 1 ∷ 0 ∷ 2 ∷ 1 ∷ 1 ∷ 0 ∷ 1 ∷ 1 ∷ 0 ∷ 0 ∷ []) (97 ∷ 98 ∷ 99 ∷ []) (7 ∷ 7 ∷ 7 ∷ 7 ∷ []) (answer accepted 1) (1 ∷ 0 ∷ 2 ∷ 7 ∷ [])
    -- P13: 0 needs 1, 1 needs 2, 2 needs 1
    × Gives (3 ∷ 3 ∷ 5 ∷ 17 ∷ 29 ∷ 0 ∷ 1 ∷ 0 ∷ 1 ∷ 1 ∷ 1 ∷ 1 ∷ 1 ∷ 2 ∷ 1 ∷ 2 ∷ 1 ∷ 1 ∷ 1 ∷ 0 ∷ 0 ∷ 2 ∷ 1 ∷ 0 ∷ 0 ∷ 1 ∷ 1 ∷ 0 ∷ 0 ∷ []) (97 ∷ 98 ∷ 99 ∷ []) (7 ∷ 7 ∷ 7 ∷ []) (answer (Err (TypeCycle 0)) 0) (7 ∷ 7 ∷ 7 ∷ [])
    -- P14: a dependency that is listed twice is settled twice
    × Gives (2 ∷ 2 ∷ 5 ∷ 13 ∷ 21 ∷ 0 ∷ 1 ∷ 0 ∷ 2 ∷ 1 ∷ 1 ∷ 2 ∷ 0 ∷ 1 ∷ 1 ∷ 0 ∷ 0 ∷ 1 ∷ 1 ∷ 0 ∷ 0 ∷ []) (97 ∷ 98 ∷ []) (7 ∷ 7 ∷ []) (answer accepted 2) (1 ∷ 0 ∷ [])
    -- ready items are taken by their place in the sheet: 0 needs 2, 1 needs 2; once 2 is placed, 0 goes before 3
    × Gives (4 ∷ 2 ∷ 5 ∷ 21 ∷ 29 ∷ 0 ∷ 1 ∷ 0 ∷ 1 ∷ 1 ∷ 1 ∷ 1 ∷ 1 ∷ 2 ∷ 1 ∷ 2 ∷ 0 ∷ 3 ∷ 1 ∷ 2 ∷ 0 ∷ 2 ∷ 1 ∷ 0 ∷ 0 ∷ 2 ∷ 1 ∷ 0 ∷ 0 ∷ []) (97 ∷ 98 ∷ 99 ∷ 100 ∷ []) (7 ∷ 7 ∷ 7 ∷ 7 ∷ []) (answer accepted 2) (2 ∷ 0 ∷ 1 ∷ 3 ∷ [])
    -- no items
    × Gives (0 ∷ 0 ∷ 5 ∷ 5 ∷ 5 ∷ []) ([]) (7 ∷ []) (answer accepted 0) (7 ∷ [])
    -- no items but an edge: 26
    × Gives (0 ∷ 1 ∷ 5 ∷ 5 ∷ 9 ∷ 0 ∷ 0 ∷ 0 ∷ 0 ∷ []) ([]) (7 ∷ []) (answer (Err MalformedSheet) 0) (7 ∷ [])
    -- under five words, 26 before 27
    × Gives (257 ∷ 0 ∷ 5 ∷ 1033 ∷ []) ([]) ([]) (answer (Err MalformedSheet) 0) ([])
    -- 257 items, 27 before the other words of the header
    × Gives (257 ∷ 0 ∷ 0 ∷ 0 ∷ 0 ∷ []) ([]) ([]) (answer (Err TooManyItems) 0) ([])
    -- 2,049 dependencies
    × Gives (0 ∷ 2049 ∷ 0 ∷ 0 ∷ 0 ∷ []) ([]) ([]) (answer (Err TooManyItems) 0) ([])
    -- a word more than the header says: 26
    × Gives (1 ∷ 0 ∷ 5 ∷ 9 ∷ 9 ∷ 0 ∷ 1 ∷ 0 ∷ 0 ∷ 0 ∷ []) (97 ∷ 98 ∷ 99 ∷ []) (7 ∷ []) (answer (Err MalformedSheet) 0) (7 ∷ [])
    -- an empty name at the end of the names is inside
    × Gives (1 ∷ 0 ∷ 5 ∷ 9 ∷ 9 ∷ 3 ∷ 0 ∷ 0 ∷ 0 ∷ []) (97 ∷ 98 ∷ 99 ∷ []) (7 ∷ []) (answer accepted 0) (0 ∷ [])
    -- beyond it, 26
    × Gives (1 ∷ 0 ∷ 5 ∷ 9 ∷ 9 ∷ 4 ∷ 0 ∷ 0 ∷ 0 ∷ []) (97 ∷ 98 ∷ 99 ∷ []) (7 ∷ []) (answer (Err MalformedSheet) 0) (7 ∷ [])
    -- an edge's name outside the slice: 26
    × Gives (1 ∷ 1 ∷ 5 ∷ 9 ∷ 13 ∷ 0 ∷ 1 ∷ 0 ∷ 1 ∷ 2 ∷ 2 ∷ 0 ∷ 0 ∷ []) (97 ∷ 98 ∷ 99 ∷ []) (7 ∷ []) (answer (Err MalformedSheet) 0) (7 ∷ [])
    -- place and length that wrap around 32 bits: 26
    × Gives (1 ∷ 0 ∷ 5 ∷ 9 ∷ 9 ∷ 4294967295 ∷ 2 ∷ 0 ∷ 0 ∷ []) (97 ∷ 98 ∷ 99 ∷ []) (7 ∷ []) (answer (Err MalformedSheet) 0) (7 ∷ [])
    -- an item without edges still carries the running first edge
    × Gives (2 ∷ 1 ∷ 5 ∷ 13 ∷ 17 ∷ 0 ∷ 1 ∷ 0 ∷ 1 ∷ 1 ∷ 1 ∷ 0 ∷ 0 ∷ 1 ∷ 1 ∷ 0 ∷ 0 ∷ []) (97 ∷ 98 ∷ 99 ∷ []) (7 ∷ 7 ∷ []) (answer (Err MalformedSheet) 0) (7 ∷ 7 ∷ [])
    -- first edges whose sum wraps to E: 26
    × Gives (2 ∷ 1 ∷ 5 ∷ 13 ∷ 17 ∷ 0 ∷ 1 ∷ 0 ∷ 4294967295 ∷ 1 ∷ 1 ∷ 4294967295 ∷ 2 ∷ 1 ∷ 1 ∷ 0 ∷ 0 ∷ []) (97 ∷ 98 ∷ 99 ∷ []) (7 ∷ 7 ∷ []) (answer (Err MalformedSheet) 0) (7 ∷ 7 ∷ [])
    -- an item that repeats an earlier name, 28 before 29
    × Gives (3 ∷ 1 ∷ 5 ∷ 17 ∷ 21 ∷ 0 ∷ 1 ∷ 0 ∷ 1 ∷ 1 ∷ 1 ∷ 1 ∷ 0 ∷ 2 ∷ 1 ∷ 1 ∷ 0 ∷ 1 ∷ 2 ∷ 0 ∷ 0 ∷ []) (97 ∷ 98 ∷ 97 ∷ []) (7 ∷ 7 ∷ 7 ∷ []) (answer (Err (RepeatedName 2)) 0) (7 ∷ 7 ∷ 7 ∷ [])
    -- a dependency that is not listed: the first such; 29 before 25
    × Gives (2 ∷ 3 ∷ 5 ∷ 13 ∷ 25 ∷ 0 ∷ 1 ∷ 0 ∷ 3 ∷ 1 ∷ 1 ∷ 3 ∷ 0 ∷ 0 ∷ 1 ∷ 0 ∷ 0 ∷ 2 ∷ 1 ∷ 0 ∷ 0 ∷ 2 ∷ 1 ∷ 0 ∷ 0 ∷ []) (97 ∷ 98 ∷ 99 ∷ []) ([]) (answer (Err (ItemNotFound 1)) 0) ([])
    -- 25 before 30
    × Gives (1 ∷ 1 ∷ 5 ∷ 9 ∷ 13 ∷ 0 ∷ 1 ∷ 0 ∷ 1 ∷ 0 ∷ 1 ∷ 0 ∷ 0 ∷ []) (97 ∷ 98 ∷ 99 ∷ []) ([]) (answer (Err (NoRoom 1)) 0) ([])
    -- 30 by the first listed edge with both ends unplaced, here not on the cycle; both mentions of 1 are settled, and the slice is unchanged
    × Gives (3 ∷ 4 ∷ 5 ∷ 17 ∷ 33 ∷ 0 ∷ 1 ∷ 0 ∷ 3 ∷ 1 ∷ 1 ∷ 3 ∷ 0 ∷ 2 ∷ 1 ∷ 3 ∷ 1 ∷ 1 ∷ 1 ∷ 0 ∷ 0 ∷ 2 ∷ 1 ∷ 0 ∷ 0 ∷ 1 ∷ 1 ∷ 0 ∷ 0 ∷ 2 ∷ 1 ∷ 0 ∷ 0 ∷ []) (97 ∷ 98 ∷ 99 ∷ []) (7 ∷ 7 ∷ 7 ∷ []) (answer (Err (TypeCycle 1)) 2) (7 ∷ 7 ∷ 7 ∷ [])

pub cases : Table
unfolding first count member same_bytes first_of length_verdict placing edges head_verdict count_verdict headed runs_on outside shaped shape_verdict words_verdict named repeats repeat_verdict target_of unlisted target_verdict items_verdict sheet_verdict reaches table room_verdict placed placed_by sorted
cases = (refl, refl, refl, refl, refl, refl, refl, refl, refl, refl, refl, refl, refl, refl, refl, refl, refl, refl, refl, refl)

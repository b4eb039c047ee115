-- Lists for 01's sheets of P12, P13 and P14, and what the proposer offers, computed from the definitions. Names are the bytes of `a`, `b`, `c`.
use Rattle.std.specs.Prelude.{Err}
use Prim.Native.Nat.{ℕ}
use mathlib.Core.Path.{◌≡◌, refl}
use mathlib.Core.List.{List, [], ◌∷◌}
use Rattle.terms.specs.Terms.{first, count, member, same_bytes}
use Rattle.answers.specs.declared.Refusal.TheVariants.{NoRoom, ItemNotFound, TypeCycle, NotAnOrder}
use Rattle.answers.specs.Caps.{first_of, length_verdict, Verdict, accepted}
use Rattle.graph.specs.Order.{placing, edges}
use Rattle.sheets.specs.Checks.{head_verdict, count_verdict, headed, runs_on, outside, shaped, shape_verdict, words_verdict, named, repeats, repeat_verdict, target_of, unlisted, target_verdict, items_verdict, sheet_verdict}
use Rattle.sheets.specs.Edges.{reaches, table}
use Rattle.clerk.specs.declared.Sorted.{Sorted}
use Rattle.clerk.specs.Sorted.{answer, room_verdict, placed, placed_by, sorted}
use Rattle.planner.specs.Proposed.{unfit, too_early, at_fault, list_verdict, checked_order, proposed}

abbrev names : List ℕ
names = 97 ∷ 98 ∷ 99 ∷ []

-- P12: 0 needs 1; 1 and 2 need none
abbrev needs_one : List ℕ
needs_one = 3 ∷ 1 ∷ 5 ∷ 17 ∷ 21 ∷ 0 ∷ 1 ∷ 0 ∷ 1 ∷ 1 ∷ 1 ∷ 1 ∷ 0 ∷ 2 ∷ 1 ∷ 1 ∷ 0 ∷ 1 ∷ 1 ∷ 0 ∷ 0 ∷ []

-- P13: 0 needs 1, 1 needs 2, 2 needs 1
abbrev circle : List ℕ
circle = 3 ∷ 3 ∷ 5 ∷ 17 ∷ 29 ∷ 0 ∷ 1 ∷ 0 ∷ 1 ∷ 1 ∷ 1 ∷ 1 ∷ 1 ∷ 2 ∷ 1 ∷ 2 ∷ 1 ∷ 1 ∷ 1 ∷ 0 ∷ 0 ∷ 2 ∷ 1 ∷ 0 ∷ 0 ∷ 1 ∷ 1 ∷ 0 ∷ 0 ∷ []

-- P14: 0 needs 1, twice
abbrev twice : List ℕ
twice = 2 ∷ 2 ∷ 5 ∷ 13 ∷ 21 ∷ 0 ∷ 1 ∷ 0 ∷ 2 ∷ 1 ∷ 1 ∷ 2 ∷ 0 ∷ 1 ∷ 1 ∷ 0 ∷ 0 ∷ 1 ∷ 1 ∷ 0 ∷ 0 ∷ []

-- no items
abbrev none : List ℕ
none = 0 ∷ 0 ∷ 5 ∷ 5 ∷ 5 ∷ []

-- 0 needs a name that no item has
abbrev unknown : List ℕ
unknown = 1 ∷ 1 ∷ 5 ∷ 9 ∷ 13 ∷ 0 ∷ 1 ∷ 0 ∷ 1 ∷ 1 ∷ 1 ∷ 0 ∷ 0 ∷ []

-- the list for the sheet gets this verdict
abbrev Judged : List ℕ → List ℕ → Verdict → Type 0
Judged ws xs v = checked_order ws names xs ≡ v

-- the proposer answers this for the sheet and the slice, and leaves this in the slice
abbrev Offers : List ℕ → List ℕ → Sorted → List ℕ → Type 0
Offers ws out r out' = ◌≡◌ {A = Sorted × List ℕ} (proposed ws names out) (r, out')

-- the cases, one by one
abbrev Table : Type 0
Table =
    -- the clerk's order, and others that are as good
    Judged needs_one (1 ∷ 0 ∷ 2 ∷ []) accepted
    × Judged needs_one (2 ∷ 1 ∷ 0 ∷ []) accepted
    × Judged needs_one (1 ∷ 2 ∷ 0 ∷ []) accepted
    × Judged twice (1 ∷ 0 ∷ []) accepted
    -- a repeat
    × Judged needs_one (1 ∷ 1 ∷ 0 ∷ []) (Err (NotAnOrder 1))
    -- a word of N, and the largest
    × Judged needs_one (1 ∷ 3 ∷ 0 ∷ []) (Err (NotAnOrder 1))
    × Judged needs_one (1 ∷ 0 ∷ 4294967295 ∷ []) (Err (NotAnOrder 2))
    -- a dependency behind what needs it: the fault is where the item stands
    × Judged needs_one (0 ∷ 1 ∷ 2 ∷ []) (Err (NotAnOrder 0))
    × Judged needs_one (2 ∷ 0 ∷ 1 ∷ []) (Err (NotAnOrder 1))
    -- the first of several faults
    × Judged needs_one (2 ∷ 2 ∷ 0 ∷ 9 ∷ []) (Err (NotAnOrder 1))
    × Judged needs_one (2 ∷ 0 ∷ 0 ∷ 9 ∷ []) (Err (NotAnOrder 1))
    -- a short list without a fault gives its length
    × Judged needs_one (1 ∷ 0 ∷ []) (Err (NotAnOrder 2))
    × Judged needs_one [] (Err (NotAnOrder 0))
    -- a long list is at fault at index N
    × Judged needs_one (1 ∷ 0 ∷ 2 ∷ 2 ∷ []) (Err (NotAnOrder 3))
    × Judged needs_one (1 ∷ 0 ∷ 2 ∷ 3 ∷ 9 ∷ []) (Err (NotAnOrder 3))
    -- no items
    × Judged none [] accepted
    × Judged none (0 ∷ []) (Err (NotAnOrder 0))
    -- dependencies in a circle have no load order: 33 at the first item that waits
    × Judged circle (0 ∷ 1 ∷ 2 ∷ []) (Err (NotAnOrder 0))
    -- a refusal of the sheet comes first
    × Judged unknown (7 ∷ []) (Err (ItemNotFound 0))
    -- what the proposer offers, and the sorter's refusals
    × Offers needs_one (7 ∷ 7 ∷ 7 ∷ 7 ∷ []) (answer accepted 1) (1 ∷ 0 ∷ 2 ∷ 7 ∷ [])
    × Offers none (7 ∷ []) (answer accepted 0) (7 ∷ [])
    × Offers circle (7 ∷ 7 ∷ 7 ∷ []) (answer (Err (TypeCycle 0)) 0) (7 ∷ 7 ∷ 7 ∷ [])
    × Offers circle (7 ∷ 7 ∷ []) (answer (Err (NoRoom 3)) 0) (7 ∷ 7 ∷ [])
    × Offers unknown (7 ∷ []) (answer (Err (ItemNotFound 0)) 0) (7 ∷ [])

pub cases : Table
unfolding first count member same_bytes first_of length_verdict placing edges head_verdict count_verdict headed runs_on outside shaped shape_verdict words_verdict named repeats repeat_verdict target_of unlisted target_verdict items_verdict sheet_verdict reaches table room_verdict placed placed_by sorted unfit too_early at_fault list_verdict checked_order proposed
cases = (refl, refl, refl, refl, refl, refl, refl, refl, refl, refl, refl, refl, refl, refl, refl, refl, refl, refl, refl, refl, refl, refl, refl, refl)

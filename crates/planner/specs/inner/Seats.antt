-- Where the words of a list stand. `seats_early` (proofs/SeatLaws.antt) ties it to what is too early in the list.
use Rattle.std.specs.Prelude.{ℕ, ◌<◌, ◌≡◌, Option, Some, None, List, length, get_or, min, ltb, if◌then◌else◌}
use Rattle.terms.specs.Terms.{first}
use Rattle.planner.specs.declared.seats.Seats.{Seats}
use Rattle.planner.specs.Proposed.{unfit}

-- Each of the first k words has its index in the table, and an index in the table is that of its item.
pub record Seated (xs : List ℕ) (k : ℕ) (index : List (Option ℕ)) : Type 0 where
  pub seat : (j : ℕ) → j < k → get_or index (get_or xs j 0) None ≡ Some j
  pub word : (i j : ℕ) → i < 256 → get_or index i None ≡ Some j → (j < k) × (get_or xs j 0 ≡ i)
  pub size : length index ≡ 256

-- The words before the first that is n or more or repeats an item have their seats.
pub record Filled (n : ℕ) (xs : List ℕ) (s : Seats) : Type 0 where
  pub stops : s.end ≡ first (unfit n xs) 0 (length xs)
  pub seated : Seated xs s.end s.index

-- The sooner of a fault that is known and an item's index, where the item stands in the list and its target not before it.
unfoldable pub sooner : Option ℕ → Option ℕ → ℕ → ℕ
sooner None target fault = fault
sooner (Some item) None fault = min fault item
sooner (Some item) (Some target) fault = if ltb target item then fault else min fault item

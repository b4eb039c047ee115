-- What the state of the placing says of the edges. `tracks_ready` (proofs/StateLaws.antt) ties it to the clerk's next item.
use Rattle.std.specs.Prelude.{ℕ, ◌+◌, ◌*◌, ◌<◌, ◌≤◌, ◌≡◌, Bool, List, [], ◌∷◌, ◌++◌, length, get_or, take, eqb}
use Rattle.terms.specs.Terms.{bit, member}
use Rattle.graph.specs.Order.{Edge, unmet, settled, order}
use Rattle.clerk.specs.declared.State.{State}

-- The items that are placed, in their order.
abbrev pub placed_of : State → List ℕ
placed_of s = take s.placed s.order

-- Item i's count is 0: it is not placed, and waits for none.
unfoldable pub free : List ℕ → ℕ → Bool
free left i = eqb (get_or left i 0) 0

-- Each item's count is the definition's, and 4,096 more where it is placed; the settled count is the definition's.
pub record Tracks (es : List Edge) (s : State) : Type 0 where
  pub left : (i : ℕ) → i < 256 → get_or s.left i 0 ≡ unmet es (placed_of s) i + 4096 * bit (member i (placed_of s))
  pub counted : s.settled ≡ settled es (placed_of s)
  pub room : s.placed ≤ 256
  pub few : length es ≤ 2048

-- r is s with x placed.
pub record Placed (es : List Edge) (s : State) (x : ℕ) (r : State) : Type 0 where
  pub tracks : Tracks es r
  pub more : r.placed ≡ s.placed + 1
  pub adds : placed_of r ≡ placed_of s ++ (x ∷ [])
  pub long : length r.order ≡ length s.order

-- Nothing is placed, and nothing counted.
pub record Blank (s : State) : Type 0 where
  pub none_left : (i : ℕ) → i < 256 → get_or s.left i 0 ≡ 0
  pub none_placed : s.placed ≡ 0
  pub none_settled : s.settled ≡ 0
  pub long : length s.left ≡ 256

-- Every item that could be placed is: the state has the clerk's order.
pub record Ran (es : List Edge) (n : ℕ) (s : State) : Type 0 where
  pub tracks : Tracks es s
  pub ordered : placed_of s ≡ order es n
  pub many : s.placed ≡ length (order es n)
  pub at_most : s.placed ≤ n

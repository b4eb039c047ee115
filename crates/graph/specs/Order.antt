-- The clerk's order. Items are the numbers below n, in the order in which the sheet lists them; an edge is a listed dependency.
use Rattle.std.specs.Prelude.{ℕ, zero, suc, Bool, not, ◌&&◌, List, [], ◌∷◌, ◌++◌, length, get_or, eqb, ltb, if◌then◌else◌}
use Rattle.terms.specs.Terms.{first, count, member}

-- A listed dependency: the item that needs, and the item that it needs, its target.
pub record Edge : Type 0 where
  pub item : ℕ
  pub target : ℕ

-- The edge is one of item i, and its target is not placed.
abbrev pub waits : List ℕ → ℕ → Edge → Bool
waits placed i e = eqb e.item i && not (member e.target placed)

-- How many edges of item i have a target that is not placed; a dependency that is listed twice counts twice.
abbrev pub unmet : List Edge → List ℕ → ℕ → ℕ
unmet es placed i = count (waits placed i) es

-- Item i is not placed, and all its dependencies are.
abbrev pub ready : List Edge → List ℕ → ℕ → Bool
ready es placed i = not (member i placed) && eqb (unmet es placed i) 0

-- The earliest listed item whose dependencies are all placed; n where there is none.
abbrev pub next : List Edge → ℕ → List ℕ → ℕ
next es n placed = first (ready es placed) 0 n

-- The next item is placed behind those that are, and so on, f times or until there is none.
unfoldable pub placing : List Edge → ℕ → ℕ → List ℕ → List ℕ
placing es n zero placed = placed
placing es n (suc f) placed =
    if ltb (next es n placed) n then placing es n f (placed ++ (next es n placed ∷ [])) else placed

-- The clerk's order of n items; shorter than n where some stay unplaced.
abbrev pub order : List Edge → ℕ → List ℕ
order es n = placing es n n []

-- The edge's target was placed.
abbrev pub is_settled : List ℕ → Edge → Bool
is_settled placed e = member e.target placed

-- The settled count: the listed dependencies whose target was placed.
abbrev pub settled : List Edge → List ℕ → ℕ
settled es placed = count (is_settled placed) es

-- The edge's item and its target both stayed unplaced.
abbrev pub is_stuck : List ℕ → Edge → Bool
is_stuck placed e = not (member e.item placed) && not (member e.target placed)

-- What is read past the last edge.
abbrev pub no_edge : Edge
no_edge = record { item = 0; target = 0 }

-- Edge k is such an edge.
abbrev pub stuck_at : List Edge → List ℕ → ℕ → Bool
stuck_at es placed k = is_stuck placed (get_or es k no_edge)

-- The first listed edge whose item and target both stayed unplaced; the number of edges where there is none.
abbrev pub first_stuck : List Edge → List ℕ → ℕ
first_stuck es placed = first (stuck_at es placed) 0 (length es)

-- The edges whose items and whose targets stand in two lists.
unfoldable pub edges : List ℕ → List ℕ → List Edge
edges [] ts = []
edges (i ∷ is) [] = []
edges (i ∷ is) (t ∷ ts) = record { item = i; target = t } ∷ edges is ts

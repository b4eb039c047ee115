-- The edges that a sheet lists: of each its item and its target.
use Rattle.std.specs.Prelude.{ℕ, zero, suc, ◌+◌, Bool, List, [], ◌∷◌, ltb}
use Rattle.terms.specs.Terms.{first}
use Rattle.graph.specs.Order.{Edge, edges}
use Rattle.sheets.specs.Words.{items, listed, first_edge, edge_count}
use Rattle.sheets.specs.Checks.{target_of}

-- The edges of item i end past edge k.
unfoldable pub reaches : List ℕ → ℕ → ℕ → Bool
reaches ws k i = ltb k (first_edge ws i + edge_count ws i)

-- The item that lists edge k: the first whose edges end past it.
abbrev pub owner_of : List ℕ → ℕ → ℕ
owner_of ws k = first (reaches ws k) 0 (items ws)

-- f i, f (i + 1), …: n of them.
unfoldable pub table : (ℕ → ℕ) → ℕ → ℕ → List ℕ
table f i zero = []
table f i (suc n) = f i ∷ table f (suc i) n

-- The items of the first m edges.
abbrev pub owners_of : List ℕ → ℕ → List ℕ
owners_of ws m = table (owner_of ws) 0 m

-- Their targets.
abbrev pub targets_of : List ℕ → List ℕ → ℕ → List ℕ
targets_of ws bs m = table (target_of ws bs) 0 m

-- The sheet's edges.
abbrev pub edges_of : List ℕ → List ℕ → List Edge
edges_of ws bs = edges (owners_of ws (listed ws)) (targets_of ws bs (listed ws))

-- 01, "Dependency sheet": a header of five words, then N rows of items and E rows of edges, four words each. Item i is row i, edge k is row N + k.
use Rattle.std.specs.Prelude.{ℕ, ◌+◌, ◌*◌, List, get_or, take, drop}

-- How many items, N.
abbrev pub items : List ℕ → ℕ
items ws = get_or ws 0 0

-- How many edges, E.
abbrev pub listed : List ℕ → ℕ
listed ws = get_or ws 1 0

-- Where a row's name starts in the names.
abbrev pub name_at : List ℕ → ℕ → ℕ
name_at ws r = get_or ws (5 + 4 * r) 0

-- The name's length.
abbrev pub name_length : List ℕ → ℕ → ℕ
name_length ws r = get_or ws (5 + 4 * r + 1) 0

-- An item's first edge.
abbrev pub first_edge : List ℕ → ℕ → ℕ
first_edge ws i = get_or ws (5 + 4 * i + 2) 0

-- How many edges an item has.
abbrev pub edge_count : List ℕ → ℕ → ℕ
edge_count ws i = get_or ws (5 + 4 * i + 3) 0

-- The part of the names from a place on, of this length.
abbrev pub part : List ℕ → ℕ → ℕ → List ℕ
part bs at n = take n (drop at bs)

-- The name of a row.
abbrev pub name_of : List ℕ → List ℕ → ℕ → List ℕ
name_of ws bs r = part bs (name_at ws r) (name_length ws r)

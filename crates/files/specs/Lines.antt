-- Lines of a text, as people count them.
use Rattle.std.specs.Prelude.{ℕ, ◌+◌, Bool, List, eqb}
use Rattle.terms.specs.Terms.{count}

-- A newline: LF.
unfoldable pub is_newline : ℕ → Bool
is_newline b = eqb b 10

-- The number of the line that goes on behind these bytes: 1, and one more for each newline among them.
unfoldable pub line_behind : List ℕ → ℕ
line_behind s = 1 + count is_newline s

-- Sets of code points as lists of ranges, each its first and its last code point.
use Rattle.std.specs.Prelude.{ℕ, ◌+◌, Bool, true, false, ◌&&◌, ◌||◌, List, [], ◌∷◌, leb}
use Rattle.terms.specs.Terms.{within}

-- c is in one of the ranges.
unfoldable pub member : List (ℕ × ℕ) → ℕ → Bool
member [] c = false
member (r ∷ rs) c = within r.0 r.1 c || member rs c

-- The ranges start at b or later, ascend, do not touch, and stay within U+10FFFF.
unfoldable pub ordered_from : ℕ → List (ℕ × ℕ) → Bool
ordered_from b [] = true
ordered_from b (r ∷ rs) = leb b r.0 && (leb r.0 r.1 && (leb r.1 0x10FFFF && ordered_from (r.1 + 2) rs))

-- The ranges ascend, do not touch, and stay within U+10FFFF.
unfoldable pub ordered : List (ℕ × ℕ) → Bool
ordered rs = ordered_from 0 rs

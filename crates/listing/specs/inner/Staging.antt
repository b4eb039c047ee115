-- What the walk over a text's tokens leaves: the count of its rows, and as many as there is room for; and what is then written to the table.
-- `staged_tabled` in proofs/StageLaws.antt ties both to `tabled`.
use Rattle.std.specs.Prelude.{ℕ, ◌+◌, ◌*◌, ◌≤◌, ◌≡◌, List, ◌++◌, length, take, drop, leb, Ok, Err, if◌then◌else◌}
use Rattle.terms.specs.Terms.{over}
use Rattle.answers.specs.declared.Refusal.TheVariants.{TooManyRows, NoRoom}
use Rattle.listing.specs.Rows.{Row, Rows, rows, refused, row_words, all_words}
use Rattle.listing.specs.Listings.{Listed, row_cap}

-- A buffer with xs in it from a place on.
unfoldable pub put : ℕ → List ℕ → List ℕ → List ℕ
put at xs buffer = take at buffer ++ (xs ++ drop (at + length xs) buffer)

-- Rows laid behind the first n of a stage where there is room for them, and the count with them.
unfoldable pub laid : List Row → ℕ → List ℕ → ℕ × List ℕ
laid rs n stage = (n + length rs, if leb ((n + length rs) * row_words) (length stage) then put (n * row_words) (all_words rs) stage else stage)

-- The count of some rows, or the refusal.
unfoldable pub counted : Rows → Listed
counted (rows rs) = Ok (length rs)
counted (refused f) = Err f

-- The answer is that count, at most one row a byte, and where the stage has room for all rows it holds them at its front.
pub record Staged (bytes : ℕ) (r : Rows) (answer : Listed) (before after : List ℕ) : Type 0 where
  pub counts : answer ≡ counted r
  pub few : (n : ℕ) → answer ≡ Ok n → n ≤ bytes
  pub as_long : length after ≡ length before
  pub holds : (rs : List Row) → r ≡ rows rs → length rs * row_words ≤ length before → after ≡ over (all_words rs) before

-- What is then answered and written: 24, 25, or that many rows of the stage.
unfoldable pub delivered : Listed → List ℕ → List ℕ → Listed × List ℕ
delivered (Err f) stage table = (Err f, table)
delivered (Ok n) stage table =
    if leb n row_cap
    then (if leb (n * row_words) (length table) then (Ok n, take (n * row_words) stage ++ drop (n * row_words) table) else (Err (NoRoom (n * row_words)), table))
    else (Err (TooManyRows n), table)

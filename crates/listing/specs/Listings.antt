-- 01, "Tokens": listings into a lent table.
use Rattle.std.specs.Prelude.{ℕ, ◌*◌, List, length, leb, Result, Ok, Err, if◌then◌else◌}
use Rattle.terms.specs.Terms.{over}
use Rattle.answers.specs.declared.Refusal.{Refusal}
use Rattle.answers.specs.declared.Refusal.TheVariants.{TooManyRows, NoRoom}
use Rattle.listing.specs.declared.Listing.{Listing}
use Rattle.listing.specs.Rows.{Rows, rows, refused, row_words, all_words, text_rows}

-- What a listing answers: how many rows it wrote, or the refusal.
abbrev pub Listed : Type 0
Listed = Result ℕ Refusal

-- The rows that one listing may have.
abbrev pub row_cap : ℕ
row_cap = 4096

-- 24 above the cap, 25 where the table lacks room; else the rows at the front of the table, and their count.
unfoldable pub tabled : Rows → List ℕ → Listed × List ℕ
tabled (refused f) table = (Err f, table)
tabled (rows rs) table =
    if leb (length rs) row_cap
    then (if leb (length rs * row_words) (length table) then (Ok (length rs), over (all_words rs) table) else (Err (NoRoom (length rs * row_words)), table))
    else (Err (TooManyRows (length rs)), table)

-- A listing of a text: it opens it and steps to its end, then checks 24, then 25. On a refusal the table is as it was.
unfoldable pub listed : Listing → List ℕ → ℕ → List ℕ → Listed × List ℕ
listed l s o table = tabled (text_rows l s o) table

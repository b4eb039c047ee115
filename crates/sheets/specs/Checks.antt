-- 01, "Dependency sheet": the checks of a sheet, in their order: 1, under five words 26, 27, other faults of shape or a name outside the slice 26, 28, 29.
use Rattle.std.specs.Prelude.{ℕ, zero, suc, ◌+◌, ◌*◌, Bool, ◌&&◌, List, length, get_or, eqb, leb, ltb, if◌then◌else◌, Err}
use Rattle.terms.specs.Terms.{first, same_bytes}
use Rattle.answers.specs.declared.Refusal.TheVariants.{MalformedSheet, TooManyItems, RepeatedName, ItemNotFound}
use Rattle.answers.specs.Caps.{first_of, length_verdict, Verdict, accepted}
use Rattle.sheets.specs.Words.{items, listed, name_at, name_length, first_edge, edge_count, name_of}

-- 26: under five words.
unfoldable pub head_verdict : List ℕ → Verdict
head_verdict ws = if leb 5 (length ws) then accepted else Err MalformedSheet

-- 27: over 256 items or 2,048 dependencies.
unfoldable pub count_verdict : List ℕ → Verdict
count_verdict ws = if leb (items ws) 256 && leb (listed ws) 2048 then accepted else Err TooManyItems

-- The header's other words are 5, 5 + 4N and 5 + 4N + 4E, and the last is the word count.
unfoldable pub headed : List ℕ → Bool
headed ws =
    eqb (get_or ws 2 0) 5
    && (eqb (get_or ws 3 0) (5 + 4 * items ws)
    && (eqb (get_or ws 4 0) (5 + 4 * items ws + 4 * listed ws) && eqb (length ws) (5 + 4 * items ws + 4 * listed ws)))

-- Of the m items from i on, the first edges run on from k, without gap, and end at E.
unfoldable pub runs_on : List ℕ → ℕ → ℕ → ℕ → Bool
runs_on ws i zero k = eqb k (listed ws)
runs_on ws i (suc m) k = eqb (first_edge ws i) k && runs_on ws (suc i) m (k + edge_count ws i)

-- The row's name does not lie in the names.
unfoldable pub outside : List ℕ → List ℕ → ℕ → Bool
outside ws bs r = ltb (length bs) (name_at ws r + name_length ws r)

-- The first row whose name does not; as many as there are rows where there is none.
abbrev pub first_outside : List ℕ → List ℕ → ℕ
first_outside ws bs = first (outside ws bs) 0 (items ws + listed ws)

-- No other fault of shape, and no name outside the slice.
unfoldable pub shaped : List ℕ → List ℕ → Bool
shaped ws bs = headed ws && (runs_on ws 0 (items ws) 0 && eqb (first_outside ws bs) (items ws + listed ws))

-- 26: other faults of shape, or a name outside the slice.
unfoldable pub shape_verdict : List ℕ → List ℕ → Verdict
shape_verdict ws bs = if shaped ws bs then accepted else Err MalformedSheet

-- 1, under five words 26, 27, other faults of shape or a name outside the slice 26.
unfoldable pub words_verdict : List ℕ → List ℕ → Verdict
words_verdict ws bs =
    first_of (length_verdict (length bs)) (first_of (head_verdict ws) (first_of (count_verdict ws) (shape_verdict ws bs)))

-- The row of item i has this name. Names compare by bytes.
unfoldable pub named : List ℕ → List ℕ → List ℕ → ℕ → Bool
named ws bs name i = same_bytes (name_of ws bs i) name

-- The first of the first n items that has this name; n where none has.
abbrev pub found : List ℕ → List ℕ → ℕ → List ℕ → ℕ
found ws bs n name = first (named ws bs name) 0 n

-- An earlier item has the name of item i.
unfoldable pub repeats : List ℕ → List ℕ → ℕ → Bool
repeats ws bs i = ltb (found ws bs i (name_of ws bs i)) i

-- The first item that repeats an earlier one's name; N where none does.
abbrev pub first_repeat : List ℕ → List ℕ → ℕ
first_repeat ws bs = first (repeats ws bs) 0 (items ws)

-- 28: a repeated name.
unfoldable pub repeat_verdict : List ℕ → List ℕ → Verdict
repeat_verdict ws bs = if ltb (first_repeat ws bs) (items ws) then Err (RepeatedName (first_repeat ws bs)) else accepted

-- The item that edge k names; N where no item has that name.
unfoldable pub target_of : List ℕ → List ℕ → ℕ → ℕ
target_of ws bs k = found ws bs (items ws) (name_of ws bs (items ws + k))

-- Edge k names no item.
unfoldable pub unlisted : List ℕ → List ℕ → ℕ → Bool
unlisted ws bs k = eqb (target_of ws bs k) (items ws)

-- The first edge that names no item; E where each names one.
abbrev pub first_unlisted : List ℕ → List ℕ → ℕ
first_unlisted ws bs = first (unlisted ws bs) 0 (listed ws)

-- 29: a dependency not listed.
unfoldable pub target_verdict : List ℕ → List ℕ → Verdict
target_verdict ws bs = if ltb (first_unlisted ws bs) (listed ws) then Err (ItemNotFound (first_unlisted ws bs)) else accepted

-- Those, then 28.
unfoldable pub items_verdict : List ℕ → List ℕ → Verdict
items_verdict ws bs = first_of (words_verdict ws bs) (repeat_verdict ws bs)

-- Those, then 29.
unfoldable pub sheet_verdict : List ℕ → List ℕ → Verdict
sheet_verdict ws bs = first_of (items_verdict ws bs) (target_verdict ws bs)

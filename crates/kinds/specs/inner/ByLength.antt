-- The keywords of one length. `by_length` (proofs/WordLaws.antt) says that no others can be a word of that length.
use Rattle.std.specs.Prelude.{ℕ, Bool, true, false, List, [], ◌∷◌, length, eqb}
use Rattle.kinds.specs.Keywords.{Key, ◌keys◌}

-- A row, if it is to be kept, before others.
unfoldable pub keep : Bool → Key → List Key → List Key
keep true row rows = row ∷ rows
keep false row rows = rows

-- The rows whose bytes are so many.
unfoldable pub of_length : ℕ → List Key → List Key
of_length n [] = []
of_length n (bytes keys kind ∷ rows) = keep (eqb n (length bytes)) (bytes keys kind) (of_length n rows)

-- 01, "Tokens" and "How far each contract reaches": what is promised of whole listings beyond the equation of each. The theorems are in proofs/Coverage.antt.
use Rattle.std.specs.Prelude.{ℕ, ◌≡◌, Bool, ◌&&◌, List, [], ◌∷◌, ◌++◌, length, eqb, ltb, None, Some, Ok, if◌then◌else◌}
use Rattle.answers.specs.declared.Place.{Place}
use Rattle.answers.specs.Places.{place}
use Rattle.steps.specs.Steps.{is_blank, moved, next_at}
use Rattle.listing.specs.Rows.{Row, Rows, rows, refused}

-- Rows cover the map from one position to another: the first starts there, none is empty, each starts where the one before ends, and the last ends there.
unfoldable pub covers : ℕ → ℕ → List Row → Bool
covers at last [] = eqb at last
covers at last (r ∷ rs) = (eqb r.span.start.0 at && ltb at r.span.end.0) && covers r.span.end.0 last rs

-- Rows without those of kinds 0 and 1.
unfoldable pub unblanked : List Row → List Row
unblanked [] = []
unblanked (r ∷ rs) = (if is_blank r.kind then [] else r ∷ []) ++ unblanked rs

-- The same of a text's rows; a refusal stays.
unfoldable pub unblanked_rows : Rows → Rows
unblanked_rows (rows rs) = rows (unblanked rs)
unblanked_rows (refused f) = refused f

-- Next, called again and again from a cursor, answers these rows one by one, and then the end of the text.
unfoldable pub Stepped : List ℕ → ℕ → Place → List Row → Type 0
Stepped s o p [] = next_at s o p ≡ moved (Ok None) (place (length s))
Stepped s o p (r ∷ rs) = (n : Place) × (next_at s o p ≡ moved (Ok (Some (r.kind, r.span))) n) × Stepped s o n rs

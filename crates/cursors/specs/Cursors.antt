-- 01, "Tokens": the cursor that the caller lends. What each step answers and where it leaves the cursor is the definition of the same step on a plain place (`steps`).
use Rattle.std.specs.Prelude.{ℕ, List, Result, Ok, Err}
use Rattle.answers.specs.declared.Refusal.{Refusal}
use Rattle.steps.specs.Steps.{Opened, opened}
use Rattle.cursors.specs.declared.Cursor.{Cursor}

-- What opening answers: a cursor at the text's first token, or the refusal.
abbrev pub Opening : Type 0
Opening = Result Cursor Refusal

-- What opening finds, as a cursor.
unfoldable pub as_cursor : Opened → Opening
as_cursor (Ok p) = Ok (record { at = p })
as_cursor (Err f) = Err f

-- Opening a text.
unfoldable pub opened_cursor : List ℕ → ℕ → Opening
opened_cursor s o = as_cursor (opened s o)

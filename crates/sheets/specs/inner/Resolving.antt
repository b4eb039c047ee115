-- The edges of a sheet resolved into two tables that the caller lends, for the room above. `clerk` never hands tables that are too short.
use Rattle.std.specs.Prelude.{ℕ, ◌≡◌, ◌&&◌, List, length, leb, if◌then◌else◌, Ok, Err}
use Rattle.terms.specs.Terms.{over}
use Rattle.answers.specs.declared.Refusal.TheVariants.{NoRoom}
use Rattle.answers.specs.Caps.{first_of, Verdict, accepted}
use Rattle.sheets.specs.Words.{listed}
use Rattle.sheets.specs.Checks.{first_unlisted, target_verdict, items_verdict}
use Rattle.sheets.specs.Edges.{owners_of, targets_of}

-- 25, where the caller's tables are too short for the edges.
unfoldable pub tables_verdict : List ℕ → List ℕ → List ℕ → Verdict
tables_verdict ws os ts = if leb (listed ws) (length os) && leb (listed ws) (length ts) then accepted else Err (NoRoom (listed ws))

-- The checks before 29, and the room.
unfoldable pub ready_verdict : List ℕ → List ℕ → List ℕ → List ℕ → Verdict
ready_verdict ws bs os ts = first_of (items_verdict ws bs) (tables_verdict ws os ts)

-- How many edges are resolved: those before the first that names no item, none where an earlier check refuses.
unfoldable pub resolved_by : Verdict → ℕ → ℕ
resolved_by (Ok _) u = u
resolved_by (Err f) u = 0

-- The same of a sheet and its two tables.
abbrev pub resolved : List ℕ → List ℕ → List ℕ → List ℕ → ℕ
resolved ws bs os ts = resolved_by (ready_verdict ws bs os ts) (first_unlisted ws bs)

-- The verdict of the checks up to 29, and the two tables with the resolved edges at their front.
pub record Resolved (ws bs os ts : List ℕ) (answer : Verdict) (os' ts' : List ℕ) : Type 0 where
  pub verdict : answer ≡ first_of (ready_verdict ws bs os ts) (target_verdict ws bs)
  pub owners : os' ≡ over (owners_of ws (resolved ws bs os ts)) os
  pub targets : ts' ≡ over (targets_of ws bs (resolved ws bs os ts)) ts

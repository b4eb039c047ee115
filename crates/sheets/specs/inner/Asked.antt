-- What the inner functions ask of a sheet whose earlier checks passed.
use Rattle.std.specs.Prelude.{ℕ, ◌+◌, ◌*◌, ◌≤◌, ◌<◌, ◌≡◌, List, length}
use Rattle.sheets.specs.Words.{items, listed, name_at, name_length}
use Rattle.terms.specs.Terms.{over}
use Rattle.answers.specs.Caps.{Verdict}
use Rattle.sheets.specs.Checks.{first_unlisted, target_verdict}
use Rattle.sheets.specs.Edges.{owner_of, owners_of, targets_of}

-- The header is there, and its counts are in the caps.
pub record Counted (ws : List ℕ) : Type 0 where
  pub header : 5 ≤ length ws
  pub few : items ws ≤ 256
  pub few_edges : listed ws ≤ 2048

-- The rows are there, each name lies in the names, and each edge has an item.
pub record Shaped (ws bs : List ℕ) : Type 0 where
  pub few : items ws ≤ 256
  pub few_edges : listed ws ≤ 2048
  pub size : length ws ≡ 5 + 4 * items ws + 4 * listed ws
  pub short : length bs ≤ 65536
  pub inside : (r : ℕ) → r < items ws + listed ws → name_at ws r + name_length ws r ≤ length bs
  pub owned : (k : ℕ) → k < listed ws → owner_of ws k < items ws

-- The answer is the verdict on the targets; the tables have the edges before the first that names no item at their front.
pub record Filled (ws bs os ts : List ℕ) (answer : Verdict) (os' ts' : List ℕ) : Type 0 where
  pub verdict : answer ≡ target_verdict ws bs
  pub owners : os' ≡ over (owners_of ws (first_unlisted ws bs)) os
  pub targets : ts' ≡ over (targets_of ws bs (first_unlisted ws bs)) ts

-- The two tables of a sheet's edges.
use Rattle.std.specs.Prelude.{ℕ, ◌<◌, ◌≤◌, ◌≡◌, List, length, get_or}

-- As many items as targets, not more than 2,048, and each of them below 256.
pub record Rows (os ts : List ℕ) : Type 0 where
  pub even : length os ≡ length ts
  pub few : length os ≤ 2048
  pub owners : (k : ℕ) → k < length os → get_or os k 0 < 256
  pub targets : (k : ℕ) → k < length os → get_or ts k 0 < 256

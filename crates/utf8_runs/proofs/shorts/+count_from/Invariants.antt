-- The place goes up to the length of the text.
use Rattle.std.proofs.Common.{◌-◌}
use Rattle.utf8_runs.proofs.shorts.+count_from.Given as goal

abbrev pub decreases-count_from : goal.decreases-count_from
decreases-count_from g l = g.row.N - l.at

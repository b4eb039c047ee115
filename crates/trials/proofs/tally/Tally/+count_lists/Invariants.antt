-- The place goes up to the length of the list.
use Rattle.std.proofs.Common.{length, ◌-◌}
use Rattle.trials.proofs.tally.Tally.+count_lists.Given as goal

abbrev pub decreases-count_lists : goal.decreases-count_lists
decreases-count_lists l = length l.list.now - l.at

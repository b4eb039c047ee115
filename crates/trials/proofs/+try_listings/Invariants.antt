-- The listing may have one dependency fewer behind it.
use Rattle.std.proofs.Common.{length, ◌-◌}
use Rattle.trials.proofs.+try_listings.Given as goal

abbrev pub decreases-try_listings : goal.decreases-try_listings
decreases-try_listings l = length l.edges.now - l.count

-- The chain may have one dependency fewer.
use Rattle.trials.proofs.sheet.Sheet.+leads.Given as goal

abbrev pub decreases-leads : goal.decreases-leads
decreases-leads l = l.most

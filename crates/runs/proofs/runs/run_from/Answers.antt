-- The bytes of the set are of the class, so the run is the one behind them; a byte below 0x80 that stands there is not of the set, and ends it.
use Rattle.std.proofs.Common.{sym, ◌∙◌}
use Rattle.runs.proofs.RunLaws.{run_passes, run_ends}
use Rattle.runs.proofs.runs.run_from.Goals as goal

pub returns-then-single_at : goal.returns-then-single_at
returns-then-single_at c =
    let e = rw c.set.ensures at c.run_end-at.ensures in
    rw e (sym (run_ends _ _ _ (rw (← e) (sym c.single_at.ensures ∙ c.if-single_at.true))))

pub returns : goal.returns
returns c =
    let e = rw c.set.ensures at c.run_end-at.ensures in
    rw (c.run_on.ensures, e) (sym (run_passes _ _ _))

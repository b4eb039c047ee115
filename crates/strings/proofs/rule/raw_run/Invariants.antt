-- What lies between the start and the next place is raw characters.
use Rattle.std.proofs.Common.{◌-◌, ◌≤◌, length}
use Rattle.strings.specs.inner.Walking.{Raw}
use Rattle.strings.proofs.rule.raw_run.Given as goal

abbrev pub invariant-loop-at : goal.invariant-loop-at
invariant-loop-at l = record { begun : l.fn.at.0 ≤ l.next.0; raw : Raw l.text l.fn.at (l.next.0 - l.fn.at.0) }

abbrev pub decreases-loop-at : goal.decreases-loop-at
decreases-loop-at l = length l.text - l.next.0

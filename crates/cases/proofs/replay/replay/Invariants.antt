-- What is held fits the buffer.
use Rattle.std.proofs.Common.{◌≤◌}
use Rattle.cases.proofs.replay.replay.Given as goal

abbrev pub invariant-loop : goal.invariant-loop
invariant-loop g l = l.held ≤ 8192

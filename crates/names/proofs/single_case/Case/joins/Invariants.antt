-- Each byte up to `at` may stand behind the one before it.
use Rattle.std.proofs.Common.{◌+◌, ◌≤◌, min}
use Rattle.names.specs.inner.OneCase.{Follow}
use Rattle.names.proofs.single_case.Case.joins.Given as goal

abbrev pub invariant-loop-at : goal.invariant-loop-at
invariant-loop-at l = (l.from ≤ l.at) × Follow l.text l.self.low l.from (min (l.at + 1) l.end)

-- Of the first i of the 64 places the n-th is the first whose byte halts, or n is 64 and none does.
use Rattle.std.proofs.Common.{◌≤◌}
use Rattle.screening.specs.inner.Plain.{halts_at}
use Rattle.screening.proofs.StopLaws.{Sought}
use Rattle.screening.proofs.plain.stop_in.Given as goal

abbrev pub invariant-loop-i : goal.invariant-loop-i
invariant-loop-i l = (l.n ≤ 64) × Sought (halts_at l.text l.less) l.k l.i l.n

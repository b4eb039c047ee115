-- While there is none, what stands behind each of the first i bytes may stand there.
use Rattle.std.proofs.Common.{◌≡◌, false}
use Rattle.names.proofs.OneCaseLaws.{Until}
use Rattle.names.proofs.single_case.Case.any_odd.Given as goal

abbrev pub invariant-loop-i : goal.invariant-loop-i
invariant-loop-i l = l.any ≡ false → Until l.text l.self.low l.at l.n l.i

-- Each byte before k may stand behind the one before it.
use Rattle.names.specs.inner.OneCase.{Follow}
use Rattle.names.proofs.single_case.Case.joins_singly.Given as goal

abbrev pub invariant-loop-k : goal.invariant-loop-k
invariant-loop-k l = Follow l.text l.self.low l.from l.k

use Rattle.sheets.proofs.ByteLaws.{NoneOf}
use Rattle.sheets.proofs.bytes.any_of.Given as goal

abbrev pub invariant-loop-b : goal.invariant-loop-b
invariant-loop-b l = NoneOf l.bytes l.x l.any l.b-index

use Rattle.sheets.proofs.ByteLaws.{none_more}
use Rattle.sheets.proofs.bytes.any_of.Goals as goal

pub loop-b-preserved : goal.loop-b-preserved
loop-b-preserved c = none_more _ _ _ _ c.loop-b.invariant

use Rattle.std.proofs.Common.{arith}
use Rattle.sheets.proofs.CheckLaws.{outside_here, inside_here, inside_all}
use Rattle.sheets.proofs.shape.all_inside.Goals as goal

pub returns-then-names-name_at : goal.returns-then-names-name_at
returns-then-names-name_at c =
    outside_here _ _ _ _ c.loop-row.invariant _ _ c.name_at.ensures.0 c.name_length.ensures.0 c.loop-row-test.true c.if-names-name_at.true

pub loop-row-preserved : goal.loop-row-preserved
loop-row-preserved c =
    inside_here _ _ _ _ c.loop-row.invariant _ _ c.name_at.ensures.0 c.name_length.ensures.0 c.loop-row-test.true c.if-names-name_at.false

pub returns : goal.returns
returns c = inside_all _ _ _ _ c.loop-row.invariant (omega arith)

use Rattle.std.proofs.Common.{arith}
use Rattle.sheets.proofs.ByteLaws.{rest_start, rest_more}
use Rattle.sheets.proofs.bytes.skip.Goals as goal

pub loop-chunk-init : goal.loop-chunk-init
loop-chunk-init c = rest_start _ _

pub loop-chunk-smaller : goal.loop-chunk-smaller
loop-chunk-smaller c = omega (arith, c.in-Some.ensures.cases.2)

pub loop-chunk-preserved : goal.loop-chunk-preserved
loop-chunk-preserved c =
    let parts = c.in-Some.ensures.cases in
    rest_more _ _ _ c.loop-chunk.invariant _ _ parts.0 parts.1 parts.2 (c.any_of.ensures c.if-any_of.false)

use Rattle.std.proofs.Common.{◌≡◌, length, arith, rules}
use lib.Seq.{length-take-le}
use Rattle.clerk.proofs.Ending.{copy_more}
use Rattle.clerk.proofs.sorting.write_order.Goals as goal

pub loop-i-preserved : goal.loop-i-preserved
loop-i-preserved c = rw (c.loop-i.invariant, c.from.ensures) (copy_more c.args.order.now c.args.s.now.order c.loop-i.i (omega arith) (omega arith))

pub returns : goal.returns
returns c =
    let size : length c.args.s.now.order ≡ 256 = search rules in
    let e : c.loop-i.i ≡ c.args.s.now.placed = omega arith in
    rw (length-take-le c.args.s.now.placed c.args.s.now.order (omega arith), ← e) c.loop-i.invariant

-- One more of the 64 places is looked at; at 64 that is the whole search.
use Rattle.std.proofs.Common.{◌≡◌, sym, arith}
use Rattle.screening.proofs.StopLaws.{sought_more, sought_all}
use Rattle.screening.proofs.plain.stop_in.Goals as goal

pub loop-i-preserved : goal.loop-i-preserved
loop-i-preserved c = (
  omega (arith, c.least-n.ensures),
  rw (c.least-n.ensures, c.stop_at.ensures) (sought_more _ _ _ _ c.loop-i-test.true c.loop-i.invariant.1),
)

pub returns : goal.returns
returns c =
    let e : c.loop-i.i ≡ 64 = omega arith in
    sym (sought_all _ _ _ (rw e at c.loop-i.invariant.1))

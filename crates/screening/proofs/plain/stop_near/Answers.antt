-- A byte that halts ends the search, one that does not is passed over, and at the end nothing is left.
use Rattle.std.proofs.Common.{◌≡◌, sym, ◌∙◌, arith}
use Rattle.terms.proofs.FirstLaws.{first_miss, first_hit, first_end}
use Rattle.screening.proofs.plain.stop_near.Goals as goal

pub returns-then-stops : goal.returns-then-stops
returns-then-stops c = sym (c.loop-k.invariant.1 ∙ first_hit _ _ _ c.loop-k-test.true (sym c.stops.ensures ∙ c.if-stops.true))

pub loop-k-preserved : goal.loop-k-preserved
loop-k-preserved c = (omega arith, c.loop-k.invariant.1 ∙ first_miss _ _ _ c.loop-k-test.true (sym c.stops.ensures ∙ c.if-stops.false))

pub returns : goal.returns
returns c =
    let k : c.loop-k.k ≡ c.max.result = omega (arith, c.loop-k.invariant.0, c.max.ensures) in
    rw (← k) (sym (c.loop-k.invariant.1 ∙ first_end _ _ _ c.loop-k-test.false))

-- A byte that is not of the set ends the search, and so does the limit.
use Rattle.std.proofs.Common.{◌≡◌, refl, sym, ap, ◌∙◌, arith}
use Rattle.terms.proofs.FirstLaws.{first_miss, first_hit, first_end}
use Rattle.answers.specs.Places.{place}
use Rattle.chars.specs.inner.Runs.{run_end}
use Rattle.chars.proofs.runs.run_end.Goals as goal

pub loop-k-init : goal.loop-k-init
loop-k-init c = (omega arith, refl)

pub returns-then-stops_at : goal.returns-then-stops_at
unfolding run_end
returns-then-stops_at c =
    sym (ap place (rw (← c.limit-end.ensures) (c.loop-k.invariant.1 ∙ first_hit _ _ _ c.loop-k-test.true (sym c.stops_at.ensures ∙ c.if-stops_at.true))))

pub loop-k-preserved : goal.loop-k-preserved
loop-k-preserved c =
    (omega arith, c.loop-k.invariant.1 ∙ first_miss _ _ _ c.loop-k-test.true (sym c.stops_at.ensures ∙ c.if-stops_at.false))

pub returns : goal.returns
unfolding run_end
returns c =
    let k : c.loop-k.k ≡ c.max.result = omega (arith, c.loop-k.invariant.0, c.max.ensures) in
    sym (ap place (rw (← c.limit-end.ensures, ← k) (c.loop-k.invariant.1 ∙ first_end _ _ _ c.loop-k-test.false)))

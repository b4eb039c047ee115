-- 64 bytes of which none halts are passed over, the first that halts ends the search, and a last search takes the rest.
use Rattle.std.proofs.Common.{◌≡◌, ◌+◌, ◌-◌, sym, ap, ◌∙◌, arith}
use Rattle.terms.specs.Terms.{first}
use Rattle.terms.proofs.FirstLaws.{first_hit, first_le}
use Rattle.answers.specs.Places.{place}
use Rattle.screening.specs.inner.Plain.{halts_at, plain_end}
use Rattle.screening.proofs.StopLaws.{first_part, first_found}
use Rattle.screening.proofs.plain.plain_end.Goals as goal

pub returns-then-stops : goal.returns-then-stops
unfolding plain_end
returns-then-stops c =
    let here = first_hit _ _ _ (omega arith) (sym c.stops.ensures ∙ c.if-stops.true) in
    sym (ap place (rw (← c.limit-end.ensures) (c.loop-k.invariant.1 ∙ here)))

pub returns-then-stop-k : goal.returns-then-stop-k
unfolding plain_end
returns-then-stop-k c =
    let found = c.stop_in-stop.ensures in
    let there = first_found _ 64 _ _ c.loop-k-test.true (rw (← found) c.if-stop-k.true) ∙ sym found in
    sym (ap place (rw (← c.limit-end.ensures) (c.loop-k.invariant.1 ∙ there)))

pub loop-k-preserved : goal.loop-k-preserved
loop-k-preserved c =
    let none : first (halts_at c.args.text.now c.args.less) c.loop-k.k 64 ≡ c.loop-k.k + 64 =
    omega (arith, c.stop_in-stop.ensures, c.if-stop-k.false, first_le (halts_at c.args.text.now c.args.less) 64 c.loop-k.k) in
    (omega arith, c.loop-k.invariant.1 ∙ rw none at (first_part (halts_at c.args.text.now c.args.less) 64 c.loop-k.k c.limit-end.result c.loop-k-test.true))

pub overflow_cast-result-2 : goal.overflow_cast-result-2
overflow_cast-result-2 c =
    omega (arith, c.stop_near.ensures, first_le (halts_at c.args.text.now c.args.less) (c.limit-end.result - c.loop-k.k) c.loop-k.k)

pub returns : goal.returns
unfolding plain_end
returns c = sym (ap place (rw (← c.limit-end.ensures) (c.loop-k.invariant.1 ∙ sym c.stop_near.ensures)))

-- A character of the class leaves the run as it is, and anything else ends it here.
use Rattle.std.proofs.Common.{rules, ◌≡◌, sym, ◌∙◌, arith}
use Rattle.std.specs.Prelude.{None, Some, Ok}
use Rattle.chars.specs.View.{folded_at}
use Rattle.chars.proofs.ViewLaws.{folded_onward}
use Rattle.runs.proofs.RunLaws.{ill_refuses, run_end_lem, run_ill, run_inside, run_outside, run_over_at}
use Rattle.runs.proofs.runs.run_on.Goals as goal

pub returns-in_err-c : goal.returns-in_err-c
returns-in_err-c c =
    let here = run_over_at _ _ _ _ c.passed_over-at.ensures c.loop-c.invariant in
    ill_refuses _ c.from_residual.ensures.1 ∙ sym (here ∙ run_ill _ _ _ _ (sym c.folded_at.ensures ∙ c.in_err-c.was))

pub loop-c-smaller : goal.loop-c-smaller
loop-c-smaller c =
    let stands : folded_at c.args.text.now c.loop-c.at ≡ Ok (Some (c.in-Some.c, c.in-Some.next)) =
    sym c.folded_at.ensures ∙ c.in_ok-c.was ∙ rw c.in-Some.is in
    omega (arith, folded_onward _ _ _ _ stands)

pub loop-c-preserved : goal.loop-c-preserved
loop-c-preserved c =
    let stands : folded_at c.args.text.now c.loop-c.at ≡ Ok (Some (c.in-Some.c, c.in-Some.next)) =
    sym c.folded_at.ensures ∙ c.in_ok-c.was ∙ rw c.in-Some.is in
    c.loop-c.invariant ∙ run_inside _ _ _ _ _ stands (sym c.has.ensures ∙ c.if-has.true)

pub returns-in_ok-c : goal.returns-in_ok-c
returns-in_ok-c c =
    let here = run_over_at _ _ _ _ c.passed_over-at.ensures c.loop-c.invariant in
    let none : c.in_ok-c.field-0 ≡ None = search rules in
    let ends : folded_at c.args.text.now c.loop-c.at ≡ Ok None = sym c.folded_at.ensures ∙ c.in_ok-c.was ∙ rw none in
    sym (here ∙ run_end_lem _ _ _ ends)

pub returns-else-has : goal.returns-else-has
returns-else-has c =
    let here = run_over_at _ _ _ _ c.passed_over-at.ensures c.loop-c.invariant in
    let stands : folded_at c.args.text.now c.loop-c.at ≡ Ok (Some (c.in-Some.c, c.in-Some.next)) =
    sym c.folded_at.ensures ∙ c.in_ok-c.was ∙ rw c.in-Some.is in
    sym (here ∙ run_outside _ _ _ _ _ stands (sym c.has.ensures ∙ c.if-has.false))

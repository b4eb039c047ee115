-- Raw characters and what an element adds keep what is known of the gathered bytes (`Reached`), and the element that ends them answers.
use Rattle.std.proofs.Common.{rules, ◌≡◌, sym, ◌∙◌, Err}
use Rattle.strings.proofs.RuleLaws.{Reached, reached_none, reached_fair, reached_run, reached_adds, reached_close, reached_fail}
use Rattle.strings.proofs.rule.expect_string_literal.Goals as goal
use Rattle.strings.proofs.rule.expect_string_literal.Goals.{Joined-run-gt0, then-run-gt0, else-run-gt0}

-- where the raw characters are passed
met : (c : Joined-run-gt0) → Reached c.args.text.now c.args.offset c.args.at c.if-run-gt0.here c.if-run-gt0.count c.if-run-gt0.seen
met c =
    elim c.if-run-gt0.branch [
      | then-run-gt0 w ↦
          simp (w.here-is, w.count-is, w.seen-is, w.passed-seen.ensures)
          (reached_run _ _ _ _ _ _ c.loop-here.invariant _ c.raw_run-run.ensures w.if-run-gt0.true)
      | else-run-gt0 w ↦ simp (w.here-is, w.count-is, w.seen-is) c.loop-here.invariant
    ]

pub loop-here-init : goal.loop-here-init
loop-here-init c = reached_none _ _ _

pub returns-in_err-more : goal.returns-in_err-more
returns-in_err-more c =
    let e : c.from_residual.result ≡ Err c.in_err-more.field-0.0 = search rules in
    e ∙ sym (reached_fail _ _ _ _ _ _ (met (goal.at.returns-in_err-more c).Joined-run-gt0) _ _ (rw c.in_err-more.was at c.element_at.ensures))

pub took-seen-requires : goal.took-seen-requires
took-seen-requires c = reached_fair _ _ _ _ _ _ (met (goal.at.took-seen-requires c).Joined-run-gt0)

pub loop-here-preserved : goal.loop-here-preserved
loop-here-preserved c =
    let l = rw (c.in_ok-more.was, c.in-Adds.is) at c.element_at.ensures in
    rw (c.size-count.ensures, c.took-seen.ensures) (reached_adds _ _ _ _ _ _ (met (goal.at.loop-here-preserved c).Joined-run-gt0) _ _ l)

pub returns-in-Close : goal.returns-in-Close
returns-in-Close c =
    c.closed.ensures
    ∙ sym (reached_close _ _ _ _ _ _ (met (goal.at.returns-in-Close c).Joined-run-gt0) _ _ (rw (c.in_ok-more.was, c.in-Close.is) at c.element_at.ensures))

-- Plain text and a character that is no newline leave the comment as it is, and anything else decides it.
use Rattle.std.proofs.Common.{◌≡◌, ◌≤◌, sym, ◌∙◌, arith}
use Rattle.std.specs.Prelude.{None, Some, Ok}
use Rattle.chars.specs.View.{folded_at}
use Rattle.chars.proofs.ViewLaws.{folded_onward}
use Rattle.screening.proofs.PlainLaws.{plain_beyond}
use Rattle.runs.proofs.RunLaws.{ill_refuses}
use Rattle.runs.proofs.CommentLaws.{line_end, line_ill, line_newline, line_other, line_past}
use Rattle.runs.proofs.comments.line_comment.Goals as goal

pub returns-in_err-folded_at : goal.returns-in_err-folded_at
returns-in_err-folded_at c =
    let past = line_past _ _ _ c.loop-c.invariant c.plain_end-here.ensures in
    ill_refuses _ c.from_residual.ensures.1 ∙ sym (past ∙ line_ill _ _ _ (sym c.folded_at.ensures ∙ c.in_err-folded_at.was))

pub returns-in-None : goal.returns-in-None
returns-in-None c =
    let past = line_past _ _ _ c.loop-c.invariant c.plain_end-here.ensures in
    let none : folded_at c.args.text.now c.plain_end-here.result ≡ Ok None =
    sym c.folded_at.ensures ∙ c.in_ok-folded_at.was ∙ rw c.in-None.is in
    sym (past ∙ line_end _ _ none)

pub returns-in-Some : goal.returns-in-Some
returns-in-Some c =
    let past = line_past _ _ _ c.loop-c.invariant c.plain_end-here.ensures in
    let stands : folded_at c.args.text.now c.plain_end-here.result ≡ Ok (Some (c.in-Some.c, c.in-Some.next)) =
    sym c.folded_at.ensures ∙ c.in_ok-folded_at.was ∙ rw c.in-Some.is in
    sym (past ∙ line_newline _ _ _ _ stands (sym c.is_newline.ensures ∙ c.if-is_newline.true))

pub loop-c-smaller : goal.loop-c-smaller
loop-c-smaller c =
    let stands : folded_at c.args.text.now c.plain_end-here.result ≡ Ok (Some (c.in-Some.c, c.in-Some.next)) =
    sym c.folded_at.ensures ∙ c.in_ok-folded_at.was ∙ rw c.in-Some.is in
    let beyond : c.loop-c.at.0 ≤ c.plain_end-here.result.0 = rw c.plain_end-here.ensures (plain_beyond _ _ _) in
    omega (arith, folded_onward _ _ _ _ stands, beyond)

pub loop-c-preserved : goal.loop-c-preserved
loop-c-preserved c =
    let past = line_past _ _ _ c.loop-c.invariant c.plain_end-here.ensures in
    let stands : folded_at c.args.text.now c.plain_end-here.result ≡ Ok (Some (c.in-Some.c, c.in-Some.next)) =
    sym c.folded_at.ensures ∙ c.in_ok-folded_at.was ∙ rw c.in-Some.is in
    past ∙ line_other _ _ _ _ stands (sym c.is_newline.ensures ∙ c.if-is_newline.false)

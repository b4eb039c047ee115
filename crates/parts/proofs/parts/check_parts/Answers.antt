-- The walk ends at the span's end or the text's, is refused at what stands here, or goes on behind it; the bytes that stay in the part are passed over.
use Rattle.std.proofs.Common.{sym, ap, ◌∙◌, arith, Ok, Err}
use Rattle.std.proofs.lemmas.Result.{err_from_is_err_and}
use Rattle.chars.proofs.Utf8Laws.{onward}
use Rattle.chars.proofs.RunLaws.{run_beyond}
use Rattle.parts.specs.Parts.{stepped}
use Rattle.parts.proofs.PartLaws.{part_passes, parts_ended, parts_end, parts_ill, parts_char, parts_on}
use Rattle.parts.proofs.parts.check_parts.Goals as goal
use Rattle.parts.proofs.parts.check_parts.Goals.{else-loop-at-test, then-loop-at-test+in_ok-c+in_default}

pub returns-in_err-c : goal.returns-in_err-c
returns-in_err-c c =
    let f = err_from_is_err_and c.from_residual.result c.from_residual.ensures.1 in
    f.1 ∙ ap Err f.2 ∙ sym (c.loop-at.invariant ∙ parts_ill _ _ _ _ _ c.loop-at-test.true _ (sym c.in_err-c.ensures))

pub returns-in_err-part : goal.returns-in_err-part
unfolding stepped
returns-in_err-part c =
    let at = sym c.in_ok-c.ensures ∙ ap Ok c.in-Some.is in
    let f = err_from_is_err_and c.from_residual-in_err-part.result c.from_residual-in_err-part.ensures.1 in
    f.1 ∙ ap Err f.2
    ∙ sym (c.loop-at.invariant ∙ parts_char _ _ _ _ _ c.loop-at-test.true _ _ at ∙ rw (← c.in_err-part.ensures))

pub loop-at-smaller : goal.loop-at-smaller
loop-at-smaller c =
    let o = onward _ _ _ _ (sym c.in_ok-c.ensures ∙ ap Ok c.in-Some.is) in
    let r = run_beyond c.args.text.now c.staying.result c.in-Some.next in
    omega (arith, c.loop-at-test.true, rw (← c.run_end-at.ensures) at r)

pub loop-at-preserved : goal.loop-at-preserved
loop-at-preserved c =
    let at = sym c.in_ok-c.ensures ∙ ap Ok c.in-Some.is in
    rw (c.run_end-at.ensures, c.staying.ensures)
    (c.loop-at.invariant ∙ parts_on _ _ _ _ _ c.loop-at-test.true _ _ at _ (sym c.in_ok-part.ensures) ∙ part_passes _ _ _ _ _)

pub returns : goal.returns
returns c =
    c.ended_by.ensures
    ∙ sym (c.loop-at.invariant
    ∙ elim c.loop-at-test.branch [
      | else-loop-at-test w ↦ parts_ended _ _ _ _ _ w.loop-at-test.false
      | then-loop-at-test+in_ok-c+in_default w ↦ parts_end _ _ _ _ _ (sym w.in_ok-c.ensures ∙ ap Ok w.in_default.is)
    ])

-- Plain text without a pair leaves the comment in its state, and each character is one turn.
use Rattle.std.proofs.Common.{◌≡◌, ◌≤◌, refl, sym, ◌∙◌, arith}
use Rattle.std.specs.Prelude.{None, Some, Ok}
use Rattle.chars.specs.View.{folded_at}
use Rattle.chars.proofs.ViewLaws.{folded_onward}
use Rattle.runs.specs.inner.Runs.{depth_of}
use Rattle.runs.proofs.RunLaws.{ill_refuses}
use Rattle.runs.proofs.CommentLaws.{block_end, block_ill, block_closed, block_open, block_past, passed_beyond, turn_depth}
use Rattle.runs.proofs.comments.block_comment.Goals as goal

pub loop-c-init : goal.loop-c-init
unfolding depth_of
loop-c-init c = (refl, omega arith, omega arith)

pub returns-in_err-c : goal.returns-in_err-c
returns-in_err-c c =
    let past = block_past _ _ _ _ _ c.loop-c.invariant.0 c.passed-here.ensures in
    ill_refuses _ c.from_residual.ensures.1 ∙ sym (past ∙ block_ill _ _ _ _ _ (sym c.folded_at.ensures ∙ c.in_err-c.was))

pub returns-in_default : goal.returns-in_default
returns-in_default c =
    let past = block_past _ _ _ _ _ c.loop-c.invariant.0 c.passed-here.ensures in
    let none : folded_at c.args.text.now c.passed-here.result ≡ Ok None = sym c.folded_at.ensures ∙ c.in_ok-c.was ∙ rw c.in_default.is in
    sym (past ∙ block_end _ _ _ _ none)

pub turn-requires : goal.turn-requires
turn-requires c =
    let stands : folded_at c.args.text.now c.passed-here.result ≡ Ok (Some (c.in-Some.c, c.in-Some.next)) =
    sym c.folded_at.ensures ∙ c.in_ok-c.was ∙ rw c.in-Some.is in
    let beyond : c.loop-c.at.0 ≤ c.passed-here.result.0 = rw c.passed-here.ensures (passed_beyond _ _ _) in
    record { some = c.loop-c.invariant.1; few = omega (arith, c.loop-c.invariant.2, beyond, (folded_onward _ _ _ _ stands).capped) }

pub returns-in_default-turn : goal.returns-in_default-turn
returns-in_default-turn c =
    let stands : folded_at c.args.text.now c.passed-here.result ≡ Ok (Some (c.in-Some.c, c.in-Some.next)) =
    sym c.folded_at.ensures ∙ c.in_ok-c.was ∙ rw c.in-Some.is in
    let past = block_past _ _ _ _ _ c.loop-c.invariant.0 c.passed-here.ensures in
    sym (past ∙ block_closed _ _ _ _ _ _ stands (sym c.turn.ensures ∙ c.in_default-turn.is))

pub loop-c-smaller : goal.loop-c-smaller
loop-c-smaller c =
    let stands : folded_at c.args.text.now c.passed-here.result ≡ Ok (Some (c.in-Some.c, c.in-Some.next)) =
    sym c.folded_at.ensures ∙ c.in_ok-c.was ∙ rw c.in-Some.is in
    let beyond : c.loop-c.at.0 ≤ c.passed-here.result.0 = rw c.passed-here.ensures (passed_beyond _ _ _) in
    omega (arith, folded_onward _ _ _ _ stands, beyond)

pub loop-c-preserved : goal.loop-c-preserved
loop-c-preserved c =
    let stands : folded_at c.args.text.now c.passed-here.result ≡ Ok (Some (c.in-Some.c, c.in-Some.next)) =
    sym c.folded_at.ensures ∙ c.in_ok-c.was ∙ rw c.in-Some.is in
    let past = block_past _ _ _ _ _ c.loop-c.invariant.0 c.passed-here.ensures in
    let beyond : c.loop-c.at.0 ≤ c.passed-here.result.0 = rw c.passed-here.ensures (passed_beyond _ _ _) in
    let turned = sym c.turn.ensures ∙ c.in-Some-turn.is in
    let depth = turn_depth _ _ _ c.loop-c.invariant.1 turned in (
      past ∙ block_open _ _ _ _ _ _ stands _ turned,
      depth.0,
      omega (arith, depth.1, c.loop-c.invariant.2, beyond, (folded_onward _ _ _ _ stands).beyond),
    )

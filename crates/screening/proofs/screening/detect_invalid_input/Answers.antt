-- Plain text changes nothing in that answer, and each character is one turn.
use Rattle.std.proofs.Common.{◌≡◌, ◌≤◌, sym, ◌∙◌, arith}
use Rattle.std.specs.Prelude.{None, Some, Ok}
use Rattle.std.proofs.lemmas.Result.{err_from_is_err_and}
use Rattle.chars.specs.Utf8.{char_at}
use Rattle.chars.proofs.Utf8Laws.{onward}
use Rattle.screening.proofs.PlainLaws.{plain_beyond}
use Rattle.screening.proofs.ScreeningLaws.{one_walk, walk_end, walk_ill, walk_char, walk_past}
use Rattle.screening.proofs.screening.detect_invalid_input.Goals as goal

pub loop-c-init : goal.loop-c-init
loop-c-init c = one_walk _

pub returns-in_err-c : goal.returns-in_err-c
returns-in_err-c c =
    let past = walk_past _ _ _ _ _ c.loop-c.invariant c.plain_end-here.ensures in
    let p = err_from_is_err_and c.from_residual.result c.from_residual.ensures.1 in
    rw (p.1, p.2) (sym (past ∙ walk_ill _ _ _ _ (sym c.read_at.ensures ∙ c.in_err-c.was)))

pub returns-in_default : goal.returns-in_default
returns-in_default c =
    let past = walk_past _ _ _ _ _ c.loop-c.invariant c.plain_end-here.ensures in
    let none : char_at c.args.text.now c.plain_end-here.result ≡ Ok None = sym c.read_at.ensures ∙ c.in_ok-c.was ∙ rw c.in_default.is in
    sym (past ∙ walk_end _ _ _ none)

pub loop-c-smaller : goal.loop-c-smaller
loop-c-smaller c =
    let stands : char_at c.args.text.now c.plain_end-here.result ≡ Ok (Some (c.in-Some.c, c.in-Some.next)) =
    sym c.read_at.ensures ∙ c.in_ok-c.was ∙ rw c.in-Some.is in
    let beyond : c.loop-c.at.0 ≤ c.plain_end-here.result.0 = rw c.plain_end-here.ensures (plain_beyond _ _ _) in
    omega (arith, beyond, onward _ _ _ _ stands)

pub loop-c-preserved : goal.loop-c-preserved
loop-c-preserved c =
    let past = walk_past _ _ _ _ _ c.loop-c.invariant c.plain_end-here.ensures in
    let stands : char_at c.args.text.now c.plain_end-here.result ≡ Ok (Some (c.in-Some.c, c.in-Some.next)) =
    sym c.read_at.ensures ∙ c.in_ok-c.was ∙ rw c.in-Some.is in
    past ∙ walk_char _ _ _ _ _ stands ∙ rw (← c.sooner-so_far.ensures)

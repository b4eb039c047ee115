-- Each turn is what the laws of the turns of an escape say.
use Rattle.std.proofs.Common.{rules, ◌≡◌, sym, ◌∙◌, Ok, Err, Some, None, arith}
use Rattle.strings.specs.declared.Turn.TheVariants.{On}
use Rattle.strings.specs.Strings.{turn_of}
use Rattle.strings.proofs.TurnLaws.{none_stands, turned_beyond, turned_fail, turned_close, turned_adds, turned_on}
use Rattle.strings.proofs.rule.turns_at.Goals as goal

pub returns-in_err-c : goal.returns-in_err-c
returns-in_err-c c =
    let e : c.from_residual.result ≡ Err c.in_err-c.field-0.0 = search rules in
    rw e (none_stands _ _ _ _ _ _ c.loop-c.invariant.comes _ (sym c.expect_any_char.ensures ∙ c.in_err-c.was))

pub returns-in_err-more : goal.returns-in_err-more
returns-in_err-more c =
    let e : c.from_residual-in_err-more.result ≡ Err c.in_err-more.field-0.0 = search rules in
    rw e (turned_fail _ _ _ _ _ _ c.loop-c.invariant.comes _ _ (sym c.expect_any_char.ensures ∙ c.in_ok-c.was) _
    (sym c.turn.ensures ∙ c.in_err-more.was))

pub returns-in-On-default-Some : goal.returns-in-On-default-Some
returns-in-On-default-Some c =
    let t : turn_of c.loop-c.inside c.loop-c.at c.in_ok-c.c ≡ Ok (On c.in-On-default-Some.field-0 (Some c.in-On-default-Some.more)) =
    sym c.turn.ensures ∙ c.in_ok-more.was ∙ rw (c.in-On-default-Some.is, c.in-On-default-Some.field-1-is) in
    turned_adds _ _ _ _ _ _ c.loop-c.invariant.comes _ _ (sym c.expect_any_char.ensures ∙ c.in_ok-c.was) c.loop-c.invariant.sound _ _ t

pub loop-c-smaller : goal.loop-c-smaller
loop-c-smaller c =
    omega (arith, turned_beyond _ _ _ _ _ _ c.loop-c.invariant.comes _ _ (sym c.expect_any_char.ensures ∙ c.in_ok-c.was))

pub loop-c-preserved : goal.loop-c-preserved
loop-c-preserved c =
    let t : turn_of c.loop-c.inside c.loop-c.at c.in_ok-c.c ≡ Ok (On c.in-On-default-None.then None) =
    sym c.turn.ensures ∙ c.in_ok-more.was ∙ rw (c.in-On-default-None.is, c.in-On-default-None.field-1-is) in
    let w = turned_on _ _ _ _ _ _ c.loop-c.invariant.comes _ _ (sym c.expect_any_char.ensures ∙ c.in_ok-c.was) c.loop-c.invariant.sound _ t in
    record { comes = w.0; sound = w.1 }

pub returns-in-Close : goal.returns-in-Close
returns-in-Close c =
    turned_close _ _ _ _ _ _ c.loop-c.invariant.comes _ _ (sym c.expect_any_char.ensures ∙ c.in_ok-c.was)
    (sym c.turn.ensures ∙ c.in_ok-more.was ∙ rw c.in-Close.is)

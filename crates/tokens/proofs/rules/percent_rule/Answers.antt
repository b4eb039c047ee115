-- What stands behind the `%` gives the row of `percent_rule`, and the test on the character is the row's own.
use Rattle.std.proofs.Common.{◌≡◌, sym, ◌∙◌}
use Rattle.std.specs.Prelude.{None, Some, Ok}
use Rattle.chars.specs.View.{folded_at}
use Rattle.chars.proofs.ViewLaws.{folded_end, folded_ill, folded_char}
use Rattle.runs.proofs.RunLaws.{ill_refuses, keylike_class}
use Rattle.tokens.specs.Tokens.{percent_rule}
use Rattle.tokens.proofs.rules.percent_rule.Goals as goal

pub returns-in_err-c : goal.returns-in_err-c
unfolding percent_rule
returns-in_err-c c =
    rw (folded_ill _ _ _ (sym c.folded_at.ensures ∙ c.in_err-c.was)) (ill_refuses _ c.from_residual.ensures.1)

pub returns-in-Some : goal.returns-in-Some
unfolding percent_rule
returns-in-Some c =
    let stands : folded_at c.args.text.now c.args.next ≡ Ok (Some (c.in-Some.c, c.in-Some.behind)) =
    sym c.folded_at.ensures ∙ c.in_ok-c.was ∙ rw c.in-Some.is in
    let test = sym c.is_keylike_start.ensures ∙ c.if-is_keylike_start.true in
    rw (folded_char _ _ _ _ stands, test, ← keylike_class, ← c.run_on.ensures) c.as_token.ensures

pub returns-in_default : goal.returns-in_default
unfolding percent_rule
returns-in_default c =
    let stands : folded_at c.args.text.now c.args.next ≡ Ok (Some (c.in-Some.c, c.in-Some.behind)) =
    sym c.folded_at.ensures ∙ c.in_ok-c.was ∙ rw c.in-Some.is in
    let test = sym c.is_keylike_start.ensures ∙ c.if-is_keylike_start.false in
    rw (folded_char _ _ _ _ stands, test)

pub returns-in_default-2 : goal.returns-in_default-2
unfolding percent_rule
returns-in_default-2 c =
    let none : folded_at c.args.text.now c.args.next ≡ Ok None = sym c.folded_at.ensures ∙ c.in_ok-c.was ∙ rw c.in_default.is in
    rw (folded_end _ _ none)

-- What stands behind the `/` gives the row of `slash_rule`.
use Rattle.std.proofs.Common.{◌≡◌, sym, ◌∙◌, arith, eq-eqb, ne_eqb}
use Rattle.std.specs.Prelude.{None, Some, Ok}
use Rattle.chars.specs.View.{folded_at}
use Rattle.chars.proofs.ViewLaws.{folded_end, folded_ill, folded_char}
use Rattle.runs.proofs.RunLaws.{ill_refuses}
use Rattle.tokens.specs.Tokens.{slash_rule}
use Rattle.tokens.proofs.rules.slash_rule.Goals as goal

pub returns-in_err-behind : goal.returns-in_err-behind
unfolding slash_rule
returns-in_err-behind c =
    rw (folded_ill _ _ _ (sym c.folded_at.ensures ∙ c.in_err-behind.was)) (ill_refuses _ c.from_residual.ensures.1)

pub returns-in-Some-eq47-default : goal.returns-in-Some-eq47-default
unfolding slash_rule
returns-in-Some-eq47-default c =
    let s = c.in-Some-eq47-default in
    let stands : folded_at c.args.text.now c.args.next ≡ Ok (Some (s.field-0-0, s.behind)) =
    sym c.folded_at.ensures ∙ c.in_ok-behind.was ∙ rw s.is in
    rw (folded_char _ _ _ _ stands, eq-eqb _ _ s.field-0-0-test, ← c.line_comment.ensures) c.as_token.ensures

pub returns-in-Some-eq42-default : goal.returns-in-Some-eq42-default
unfolding slash_rule
returns-in-Some-eq42-default c =
    let s = c.in-Some-eq42-default in
    let stands : folded_at c.args.text.now c.args.next ≡ Ok (Some (s.field-0-0, s.behind)) =
    sym c.folded_at.ensures ∙ c.in_ok-behind.was ∙ rw s.is in
    rw (
      folded_char _ _ _ _ stands,
      s.field-0-0-test,
      ← c.in_map-start.ensures,
      ← c.block_comment.ensures,
    ) c.as_token-in-Some-eq42-default.ensures

pub returns-in_default : goal.returns-in_default
unfolding slash_rule
returns-in_default c =
    let d = c.in_default.field-0 in
    let stands : folded_at c.args.text.now c.args.next ≡ Ok (Some (d.0, d.1)) =
    sym c.folded_at.ensures ∙ c.in_ok-behind.was ∙ rw c.in_default.is in
    rw (folded_char _ _ _ _ stands, ne_eqb d.0 47 (λ e. grind arith), ne_eqb d.0 42 (λ e. grind arith))

pub returns-in_default-2 : goal.returns-in_default-2
unfolding slash_rule
returns-in_default-2 c =
    let none : folded_at c.args.text.now c.args.next ≡ Ok None = sym c.folded_at.ensures ∙ c.in_ok-behind.was ∙ rw c.in_default.is in
    rw (folded_end _ _ none)

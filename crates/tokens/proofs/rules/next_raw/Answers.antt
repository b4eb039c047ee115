-- What stands at the place gives the row of `raw_of`; the token's first character ends beyond the place, within the text.
use Rattle.std.proofs.Common.{◌≡◌, sym, ◌∙◌, arith}
use Rattle.std.specs.Prelude.{None, Some, Ok}
use Rattle.std.proofs.lemmas.Result.{err_from_is_err_and}
use Rattle.chars.specs.View.{folded_at}
use Rattle.chars.proofs.ViewLaws.{folded_end, folded_ill, folded_char, folded_onward}
use Rattle.runs.proofs.RunLaws.{ill_refuses}
use Rattle.tokens.specs.Tokens.{raw_at, raw_of, spanned}
use Rattle.tokens.proofs.rules.next_raw.Goals as goal

pub returns-in_err-c : goal.returns-in_err-c
unfolding raw_at raw_of
returns-in_err-c c =
    rw (folded_ill _ _ _ (sym c.folded_at.ensures ∙ c.in_err-c.was)) (ill_refuses _ c.from_residual.ensures.1)

pub returns-in_default : goal.returns-in_default
unfolding raw_at raw_of
returns-in_default c =
    let none : folded_at c.args.text.now c.args.at ≡ Ok None = sym c.folded_at.ensures ∙ c.in_ok-c.was ∙ rw c.in_default.is in
    rw (folded_end _ _ none)

pub lexed_by-requires : goal.lexed_by-requires
lexed_by-requires c =
    let stands : folded_at c.args.text.now c.args.at ≡ Ok (Some (c.in-Some.c, c.in-Some.behind)) =
    sym c.folded_at.ensures ∙ c.in_ok-c.was ∙ rw c.in-Some.is in
    let on = folded_onward _ _ _ _ stands in
    (omega (arith, on.beyond), on.inside)

pub returns-in_err-kind : goal.returns-in_err-kind
unfolding raw_at raw_of spanned
returns-in_err-kind c =
    let stands : folded_at c.args.text.now c.args.at ≡ Ok (Some (c.in-Some.c, c.in-Some.behind)) =
    sym c.folded_at.ensures ∙ c.in_ok-c.was ∙ rw c.in-Some.is in
    let p = err_from_is_err_and c.from_residual-in_err-kind.result c.from_residual-in_err-kind.ensures.1 in
    rw (folded_char _ _ _ _ stands, ← c.lexed_by.ensures, c.in_err-kind.was, p.1, p.2)

pub returns : goal.returns
unfolding raw_at raw_of spanned
returns c =
    let stands : folded_at c.args.text.now c.args.at ≡ Ok (Some (c.in-Some.c, c.in-Some.behind)) =
    sym c.folded_at.ensures ∙ c.in_ok-c.was ∙ rw c.in-Some.is in
    rw (
      folded_char _ _ _ _ stands,
      ← c.lexed_by.ensures,
      c.in_ok-kind.was,
      ← c.in_map-start.ensures,
      ← c.in_map-end.ensures,
    )

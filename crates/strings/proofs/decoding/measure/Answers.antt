-- Each return is a row of `spelling` by its tests: the start in the text, a quote there, what the rule answers, and where that ends.
use Rattle.std.proofs.Common.{rules, ◌<◌, sym, ap, ◌∙◌, arith}
use Rattle.std.specs.Result.{result_ok}
use Rattle.answers.specs.Places.{place}
use Rattle.chars.proofs.Utf8Laws.{byte_in}
use Rattle.strings.proofs.DecodingLaws.{spelt_early, spelt_elsewhere, spelt_refused, spelt_then, measured_none}
use Rattle.strings.proofs.decoding.measure.Goals as goal

pub returns-in_err-checked_sub : goal.returns-in_err-checked_sub
returns-in_err-checked_sub c =
    let early : c.args.span.start.0 < c.args.offset = search rules in
    c.from_residual.ensures ∙ measured_none _ (spelt_early _ _ _ early)

pub returns-then-byte_at-ne34 : goal.returns-then-byte_at-ne34
returns-then-byte_at-ne34 c =
    measured_none _ (spelt_elsewhere _ _ _ _ c.in_ok-checked_sub.ensures (λ k. c.if-byte_at-ne34.true (c.byte_at.ensures ∙ k)))

pub overflow_add-quote : goal.overflow_add-quote
overflow_add-quote c = omega (arith, c.requires, byte_in c.args.text.now (place c.in_ok-checked_sub.field-0))

pub returns-in_err-literal : goal.returns-in_err-literal
returns-in_err-literal c =
    let d = sym (ap result_ok c.expect_string_literal.ensures) ∙ sym c.ok.ensures.value ∙ c.in_err-literal.was in
    c.from_residual-in_err-literal.ensures
    ∙ measured_none _ (spelt_refused _ _ _ _ c.in_ok-checked_sub.ensures (sym c.byte_at.ensures ∙ c.if-byte_at-ne34.false) _ d)

pub returns : goal.returns
returns c =
    let d = sym (ap result_ok c.expect_string_literal.ensures) ∙ sym c.ok.ensures.value ∙ c.in_ok-literal.was in
    c.then_some.ensures
    ∙ spelt_then _ _ _ _ c.in_ok-checked_sub.ensures (sym c.byte_at.ensures ∙ c.if-byte_at-ne34.false) _ _ d

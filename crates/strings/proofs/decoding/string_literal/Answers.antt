-- The text's refusal first; then what the first walk measures, against the buffer's room; then the second walk pours it, which is the definition's value.
use Rattle.std.proofs.Common.{rules, ◌≡◌, length, sym, ap, ◌∙◌, Err, None, Some, arith}
use Rattle.std.specs.Result.{result_ok}
use Rattle.answers.specs.Caps.{accepted, text_verdict}
use Rattle.answers.specs.declared.Refusal.TheVariants.{BadSpan}
use Rattle.answers.proofs.CapsLaws.{text_in}
use Rattle.strings.specs.Decoding.{spelling}
use Rattle.strings.specs.inner.Writing.{measured}
use Rattle.strings.proofs.DecodingLaws.{decoded_refused, decoded_nothing, spelled, decoded_short, room, decoded_value}
use Rattle.strings.proofs.decoding.string_literal.Goals as goal
use Rattle.strings.proofs.decoding.string_literal.Goals.{In_ok-check_text, In_ok-n}

-- the text passes, and the span spells a value
passes : (c : In_ok-check_text) → text_verdict c.args.offset (length c.args.text.now) ≡ accepted
passes c = sym c.check_text.ensures ∙ c.in_ok-check_text.was

value : (c : In_ok-n) → measured (spelling c.args.text.now c.args.offset c.args.span) ≡ Some c.in_ok-n.n
value c = sym c.measure.ensures ∙ c.ok_or.ensures.ok_part ∙ ap result_ok c.in_ok-n.was

pub returns-in_err-check_text : goal.returns-in_err-check_text
returns-in_err-check_text c =
    let e : c.from_residual.result ≡ Err c.in_err-check_text.field-0.0 = search rules in
    rw e (sym (decoded_refused _ _ _ _ _ (sym c.check_text.ensures ∙ c.in_err-check_text.was)))

pub measure-requires : goal.measure-requires
measure-requires c = (text_in _ _ (passes (goal.at.measure-requires c).In_ok-check_text)).short

pub returns-in_err-n : goal.returns-in_err-n
returns-in_err-n c =
    let n : c.measure.result ≡ None = c.ok_or.ensures.ok_part ∙ ap result_ok c.in_err-n.was in
    let f : c.ok_or.result ≡ Err BadSpan = c.ok_or.ensures.value ∙ rw n in
    let e : c.from_residual-in_err-n.result ≡ Err c.in_err-n.field-0.0 = search rules in
    rw (e ∙ sym c.in_err-n.was ∙ f) (sym (decoded_nothing _ _ _ _ (passes (goal.at.returns-in_err-n c).In_ok-check_text) (sym c.measure.ensures ∙ n)))

pub returns-then-value-n : goal.returns-then-value-n
returns-then-value-n c =
    let at = goal.at.returns-then-value-n c in
    sym (decoded_short _ _ _ _ (passes at.In_ok-check_text) _ (value at.In_ok-n) c.if-value-n.true)

pub overflow_sub-span : goal.overflow_sub-span
overflow_sub-span c =
    let at = goal.at.overflow_sub-span c in
    (spelled _ _ _ c.args.value.now (passes at.In_ok-check_text) _ (value at.In_ok-n)).placed

pub overflow_add-span : goal.overflow_add-span
overflow_add-span c =
    let at = goal.at.overflow_add-span c in
    omega (
      arith,
      (spelled _ _ _ c.args.value.now (passes at.In_ok-check_text) _ (value at.In_ok-n)).inside,
      (text_in _ _ (passes at.In_ok-check_text)).short,
    )

pub pour-requires : goal.pour-requires
pour-requires c =
    let at = goal.at.pour-requires c in
    room _ _ _ c.args.value.now (passes at.In_ok-check_text) _ (value at.In_ok-n) c.if-value-n.false

pub returns : goal.returns
returns c =
    let at = goal.at.returns c in
    rw c.pour.ensures (sym (decoded_value _ _ _ _ (passes at.In_ok-check_text) _ (value at.In_ok-n) c.if-value-n.false))

-- A bare quote is the turn that closes, a backslash is one turn to behind it, from where the turns of the escape lead on.
use Rattle.std.proofs.Common.{◌≡◌, refl, sym, ◌∙◌, Some, None, Ok, arith}
use Rattle.chars.specs.Utf8.{on_by}
use Rattle.chars.specs.View.{folded_at}
use Rattle.strings.specs.declared.Inside.TheVariants.{Escape}
use Rattle.strings.specs.Strings.{turn_of, plain_turn}
use Rattle.strings.proofs.TurnLaws.{ascii_stands, turn_close, went, read_on, leads_too}
use Rattle.strings.proofs.rule.element_at.Goals as goal
use Rattle.strings.proofs.rule.element_at.Goals.{In-Some-eq34, In-Some-eq92}

-- what stands here
quote : (c : In-Some-eq34) → folded_at c.args.text.now c.args.at ≡ Ok (Some (0x22, on_by 1 c.args.at))
quote c = ascii_stands _ _ _ (sym c.ascii_at.ensures ∙ c.in-Some-eq34.is ∙ rw c.in-Some-eq34.field-0-test)

slash : (c : In-Some-eq92) → folded_at c.args.text.now c.args.at ≡ Ok (Some (0x5C, on_by 1 c.args.at))
slash c = ascii_stands _ _ _ (sym c.ascii_at.ensures ∙ c.in-Some-eq92.is ∙ rw c.in-Some-eq92.field-0-test)

pub overflow_add-result : goal.overflow_add-result
overflow_add-result c = omega (arith, read_on _ _ _ _ (quote (goal.at.overflow_add-result c).In-Some-eq34))

pub overflow_add-at : goal.overflow_add-at
overflow_add-at c = omega (arith, read_on _ _ _ _ (slash (goal.at.overflow_add-at c).In-Some-eq92))

pub returns-in-Some-eq34 : goal.returns-in-Some-eq34
unfolding turn_of plain_turn
returns-in-Some-eq34 c =
    let e = quote (goal.at.returns-in-Some-eq34 c).In-Some-eq34 in (read_on _ _ _ _ e, λ h. turn_close _ _ _ _ _ e _ h refl)

pub returns-in-Some-eq92 : goal.returns-in-Some-eq92
unfolding turn_of plain_turn
returns-in-Some-eq92 c =
    let behind = went _ c.args.offset _ _ _ _ (slash (goal.at.returns-in-Some-eq92 c).In-Some-eq92) tt Escape None refl in
    leads_too _ _ _ _ _ _ behind.comes c.turns_at.result c.turns_at.ensures

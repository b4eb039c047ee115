use Rattle.std.proofs.Common.{◌≡◌, sym, ◌∙◌, arith}
use Rattle.terms.proofs.FirstLaws.{first_start, first_miss, first_hit, first_end}
use Rattle.sheets.specs.Checks.{first_repeat}
use Rattle.sheets.proofs.EdgeLaws.{over_none, over_more}
use Rattle.sheets.proofs.NameLaws.{front_length, front_signed, finds_repeat, refuses_repeat, accepts_names}
use Rattle.sheets.proofs.names.sign.Goals as goal

pub loop-i-init : goal.loop-i-init
loop-i-init c = record { so-far = first_start _ _; written = over_none _ _ }

pub invariant_of-index : goal.invariant_of-index
invariant_of-index c =
    let size = front_length _ _ _ _ _ c.loop-i.invariant.written in
    record { few = omega (arith, size, c.items-i-end.ensures); signed = front_signed _ _ _ _ _ c.loop-i.invariant.written }

pub returns-then-is_some : goal.returns-then-is_some
returns-then-is_some c =
    let again = sym (finds_repeat _ _ _ _ _ c.loop-i.invariant.written _ _ c.name-name.ensures.0 c.find.ensures) ∙ sym c.is_some.ensures ∙ c.if-is_some.true in
    let e : first_repeat c.args.sheet.words.all.now c.args.sheet.names.now ≡ c.loop-i.i =
    c.loop-i.invariant.so-far ∙ first_hit _ _ _ (omega (arith, c.items-i-end.ensures)) again in
    record { verdict = refuses_repeat _ _ _ e (omega (arith, c.items-i-end.ensures)); signatures = rw e c.loop-i.invariant.written }

pub loop-i-preserved : goal.loop-i-preserved
loop-i-preserved c =
    let new = sym (finds_repeat _ _ _ _ _ c.loop-i.invariant.written _ _ c.name-name.ensures.0 c.find.ensures) ∙ sym c.is_some.ensures ∙ c.if-is_some.false in
    record {
      so-far = c.loop-i.invariant.so-far ∙ first_miss _ _ _ (omega (arith, c.items-i-end.ensures)) new;
      written = rw c.loop-i.invariant.written (over_more _ _ _ _ (omega (arith, c.items-i-end.ensures, c.requires)) (rw c.name-name.ensures.0 at c.signature-s.ensures));
    }

pub returns : goal.returns
returns c =
    let e : first_repeat c.args.sheet.words.all.now c.args.sheet.names.now ≡ c.loop-i.i =
    c.loop-i.invariant.so-far ∙ first_end _ _ _ (omega (arith, c.items-i-end.ensures)) in
    record { verdict = accepts_names _ _ _ e (omega (arith, c.items-i-end.ensures)); signatures = rw e c.loop-i.invariant.written }

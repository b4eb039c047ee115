use Rattle.std.proofs.Common.{sym, ◌∙◌, arith}
use Rattle.sheets.proofs.NameLaws.{stops_in, named_here, named_later, named_nowhere}
use Rattle.sheets.proofs.names.Index.find.Goals as goal

pub returns-then-same : goal.returns-then-same
returns-then-same c =
    named_here _ _ _ _ _ _ c.args.self.signed c.requires c.loop-i.invariant.within c.loop-i.invariant.so-far
    _ (sym c.in-Some.is ∙ c.byte_from.ensures) _ c.name.ensures.0 (sym c.same.ensures ∙ c.if-same.true)

pub loop-i-smaller : goal.loop-i-smaller
loop-i-smaller c =
    let there = stops_in _ _ _ _ _ _ c.args.self.signed c.requires c.loop-i.invariant.within c.loop-i.invariant.so-far
    _ (sym c.in-Some.is ∙ c.byte_from.ensures) in
    omega (arith, there.0, there.1)

pub loop-i-preserved : goal.loop-i-preserved
loop-i-preserved c =
    let there = stops_in _ _ _ _ _ _ c.args.self.signed c.requires c.loop-i.invariant.within c.loop-i.invariant.so-far
    _ (sym c.in-Some.is ∙ c.byte_from.ensures) in
    record {
      within = omega (arith, there.1);
      so-far = named_later _ _ _ _ _ _ c.args.self.signed c.requires c.loop-i.invariant.within c.loop-i.invariant.so-far
          _ (sym c.in-Some.is ∙ c.byte_from.ensures) _ c.name.ensures.0 (sym c.same.ensures ∙ c.if-same.false);
    }

pub returns : goal.returns
returns c =
    named_nowhere _ _ _ _ _ _ c.args.self.signed c.requires c.loop-i.invariant.within c.loop-i.invariant.so-far (sym c.in_default.is ∙ c.byte_from.ensures)

use Rattle.std.proofs.Common.{◌*◌, ◌≤◌, sym, ◌∙◌, arith}
use Rattle.sheets.proofs.NameLaws.{signed_step, signed_end, product_small}
use Rattle.sheets.proofs.names.signature.Goals as goal

pub loop-b-preserved : goal.loop-b-preserved
loop-b-preserved c =
    let small : c.from.result ≤ 255 = omega (arith, c.from.ensures, c.type_inv.name c.loop-b.b-index) in
    let product : c.from.result * c.loop-b.factor ≤ 16711425 = product_small _ _ small c.loop-b.invariant.factor-small in
    record {
      factor-small = omega arith;
      step-small = omega arith;
      sum-small = omega (arith, product, c.loop-b.invariant.sum-small);
      so-far = rw c.from.ensures (c.loop-b.invariant.so-far ∙ signed_step _ _ _ _ _ c.loop-b-test.true);
    }

pub returns : goal.returns
returns c = sym (c.loop-b.invariant.so-far ∙ signed_end _ _ _ _ _ c.loop-b-test.false)

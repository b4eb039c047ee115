use Rattle.std.proofs.Common.{sym, ◌∙◌, arith, rules}
use Rattle.clerk.proofs.Taking.{hit_in, hit_left, hit_more, hits_few, hits_end, small, placed_of_lem}
use Rattle.clerk.proofs.State.place.Goals as goal

pub overflow_sub-self : goal.overflow_sub-self
overflow_sub-self c =
    let so-far = c.loop-k.invariant in
    hit_left _ _ c.args.edges.rows _ _ c.requires.0 (omega (arith, c.ranges.x)) c.requires.2 _ _ _ so-far.taking so-far.within _ (sym c.in-Some.is ∙ c.byte_from.ensures)

pub overflow_add-self : goal.overflow_add-self
overflow_add-self c =
    let so-far = c.loop-k.invariant in
    omega (arith, hits_few _ _ c.args.edges.rows _ _ c.requires.0 (omega (arith, c.ranges.x)) c.requires.2 _ _ _ so-far.taking so-far.within)

pub loop-k-smaller : goal.loop-k-smaller
loop-k-smaller c =
    let so-far = c.loop-k.invariant in
    let at = hit_in _ _ c.args.edges.rows _ _ c.requires.0 (omega (arith, c.ranges.x)) c.requires.2 _ _ _ so-far.taking so-far.within _ (sym c.in-Some.is ∙ c.byte_from.ensures) in
    omega (arith, at.0, at.1)

pub loop-k-preserved : goal.loop-k-preserved
loop-k-preserved c =
    let so-far = c.loop-k.invariant in
    let got = sym c.in-Some.is ∙ c.byte_from.ensures in
    let at = hit_in _ _ c.args.edges.rows _ _ c.requires.0 (omega (arith, c.ranges.x)) c.requires.2 _ _ _ so-far.taking so-far.within _ got in
    record {
      taking = hit_more _ _ c.args.edges.rows _ _ c.requires.0 (omega (arith, c.ranges.x)) c.requires.2 _ _ _ so-far.taking so-far.within _ got;
      within = omega (arith, at.1);
      same-order = so-far.same-order;
      same-placed = so-far.same-placed;
    }

pub overflow_add-self-2 : goal.overflow_add-self-2
overflow_add-self-2 c =
    let so-far = c.loop-k.invariant in
    let end = hits_end _ _ c.args.edges.rows _ _ c.requires.0 (omega (arith, c.ranges.x)) c.requires.2 _ _ _ so-far.taking so-far.within (sym c.in_default.is ∙ c.byte_from.ensures) in
    omega (arith, small _ _ _ c.requires.0 c.requires.1 (omega (arith, c.ranges.x)) c.requires.2 _ _ _ end.2 end.1)

pub returns : goal.returns
returns c =
    let so-far = c.loop-k.invariant in
    let end = hits_end _ _ c.args.edges.rows _ _ c.requires.0 (omega (arith, c.ranges.x)) c.requires.2 _ _ _ so-far.taking so-far.within (sym c.in_default.is ∙ c.byte_from.ensures) in
    rw (so-far.same-order, so-far.same-placed)
    (placed_of_lem _ _ _ c.requires.0 c.requires.1 (omega (arith, c.ranges.x)) c.requires.2 _ _ _ (search rules) end.2 end.1)

use Rattle.std.proofs.Common.{arith}
use Rattle.sheets.proofs.EdgeLaws.{owner_below, owner_here, owner_later}
use Rattle.sheets.proofs.shape.Sheet.owner.Goals as goal

pub returns-then-k-first_edge : goal.returns-then-k-first_edge
returns-then-k-first_edge c =
    owner_here _ _ _ _ c.loop-i.invariant c.requires _ _ c.first_edge.ensures.0 c.edge_count.ensures.0 c.if-k-first_edge.true

pub loop-i-preserved : goal.loop-i-preserved
loop-i-preserved c =
    owner_later _ _ _ _ c.loop-i.invariant c.requires _ _ c.first_edge.ensures.0 c.edge_count.ensures.0 c.if-k-first_edge.false

pub unreachable-requires : goal.unreachable-requires
unreachable-requires c = omega (arith, c.items-i-end.ensures, owner_below _ _ _ _ c.loop-i.invariant c.requires)

use Rattle.std.proofs.Common.{◌≡◌, ◌-◌, ◌≤◌, length}
use Rattle.graph.specs.Order.{order, placing}
use Rattle.clerk.specs.inner.Listed.{edges_in}
use Rattle.clerk.specs.inner.State.{placed_of, Tracks}
use Rattle.clerk.proofs.State.run.Given as goal

abbrev pub invariant-loop-s : goal.invariant-loop-s
invariant-loop-s l = record {
  tracks : Tracks (edges_in l.edges) l.s;
  at-most : l.s.placed ≤ l.edges.items;
  so-far : order (edges_in l.edges) l.edges.items ≡ placing (edges_in l.edges) l.edges.items (l.edges.items - l.s.placed) (placed_of l.s);
  long : length l.s.order ≡ 256;
}

abbrev pub decreases-loop-s : goal.decreases-loop-s
decreases-loop-s l = l.edges.items - l.s.placed

use Rattle.std.proofs.Common.{◌≡◌, ◌-◌, ◌≤◌, length}
use Rattle.clerk.specs.inner.Listed.{edges_in}
use Rattle.clerk.proofs.Taking.{Taking}
use Rattle.clerk.proofs.State.place.Given as goal

abbrev pub invariant-loop-k : goal.invariant-loop-k
invariant-loop-k l = record {
  taking : Taking (edges_in l.edges) l.x l.initial.self.left l.initial.self.settled l.self.left l.self.settled l.from;
  within : l.from ≤ length l.edges.targets.now;
  same-order : l.self.order ≡ l.initial.self.order;
  same-placed : l.self.placed ≡ l.initial.self.placed;
}

abbrev pub decreases-loop-k : goal.decreases-loop-k
decreases-loop-k l = length l.edges.targets.now - l.from

use Rattle.std.proofs.Common.{◌≡◌, length, take}
use Rattle.clerk.specs.inner.Listed.{edges_in}
use Rattle.planner.specs.Proposed.{first_fault}
use Rattle.planner.proofs.checking.first_fault.Given as goal

abbrev pub invariant-loop-item : goal.invariant-loop-item
invariant-loop-item l = l.fault ≡ first_fault (take (length l.yielded) (edges_in l.edges)) l.edges.items l.list

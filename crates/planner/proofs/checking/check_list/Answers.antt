use Rattle.std.proofs.Common.{arith}
use mathlib.Core.Logic.{inl, inr}
use Rattle.clerk.specs.inner.Listed.{edges_in}
use Rattle.planner.proofs.ListLaws.{fault_by_n, accepts, refuses}
use Rattle.planner.proofs.checking.check_list.Goals as goal
use Rattle.planner.proofs.checking.check_list.Goals.{else-list-edges-via-then-list-edges+else-fault-edges, else-list-edges-via-else-list-edges}

pub returns-then-fault-edges : goal.returns-then-fault-edges
returns-then-fault-edges c = accepts _ _ _ _ c.first_fault-fault.ensures c.if-list-edges.true c.if-fault-edges.true

pub overflow_cast-result : goal.overflow_cast-result
overflow_cast-result c =
    omega (arith, c.first_fault-fault.ensures, fault_by_n (edges_in c.args.edges) c.args.edges.items c.args.list.now, c.args.edges.few)

pub returns : goal.returns
returns c =
    refuses _ _ _ _ c.first_fault-fault.ensures
    (elim c.else-list-edges.branch [ else-list-edges-via-then-list-edges+else-fault-edges w ↦ inr w.if-fault-edges.false | else-list-edges-via-else-list-edges w ↦ inl w.if-list-edges.false ])

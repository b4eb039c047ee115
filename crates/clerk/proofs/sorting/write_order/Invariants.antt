use Rattle.std.proofs.Common.{◌≡◌, ◌++◌, take, drop}
use Rattle.clerk.proofs.sorting.write_order.Given as goal

abbrev pub invariant-loop-i : goal.invariant-loop-i
invariant-loop-i l = l.order ≡ take l.i l.s.order ++ drop l.i l.initial.order

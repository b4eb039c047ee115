use Rattle.std.proofs.Common.{◌≡◌}
use Rattle.clerk.specs.inner.Listed.{edges_in}
use Rattle.clerk.proofs.Tallied.{Tallied}
use Rattle.clerk.proofs.State.start.Given as goal

abbrev pub invariant-loop-o : goal.invariant-loop-o
invariant-loop-o l = record {
  tallied : Tallied (edges_in l.edges) l.s.left l.o-index;
  none-placed : l.s.placed ≡ 0;
  none-settled : l.s.settled ≡ 0;
}

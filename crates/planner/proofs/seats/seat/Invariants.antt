use Rattle.planner.proofs.SeatLaws.{Seating}
use Rattle.planner.proofs.seats.seat.Given as goal

abbrev pub invariant-loop-k : goal.invariant-loop-k
invariant-loop-k l = Seating l.n l.list l.index l.k

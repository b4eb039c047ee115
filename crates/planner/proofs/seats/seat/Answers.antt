use Rattle.std.proofs.Common.{sym, ◌∙◌, arith}
use Rattle.planner.proofs.SeatLaws.{seating_start, unfit_seat, unfit_item, seat_room, seating_more, seating_stop, seating_end}
use Rattle.planner.proofs.seats.seat.Goals as goal
use Rattle.planner.proofs.seats.seat.Goals.{then-n-x-via-then-n-x, then-n-x-via-else-n-x+then-is_seated}

pub loop-k-init : goal.loop-k-init
loop-k-init c = seating_start _ _

pub returns-then-n-x : goal.returns-then-n-x
returns-then-n-x c =
    let so-far = c.loop-k.invariant in
    elim c.then-n-x.branch [
      | then-n-x-via-then-n-x w ↦ seating_stop _ _ _ _ so-far (λ l. unfit_item _ _ _ _ c.requires so-far w.if-n-x.true)
      | then-n-x-via-else-n-x+then-is_seated w ↦
          seating_stop _ _ _ _ so-far (λ l. unfit_seat _ _ _ _ c.requires so-far w.if-n-x.false (sym w.is_seated.ensures ∙ w.if-is_seated.true))
    ]

pub overflow_cast-index : goal.overflow_cast-index
overflow_cast-index c =
    omega (arith, seat_room _ _ _ _ c.requires c.loop-k.invariant c.loop-k-test.true c.if-n-x.false (sym c.is_seated.ensures ∙ c.if-is_seated.false))

pub loop-k-preserved : goal.loop-k-preserved
loop-k-preserved c =
    seating_more _ _ _ _ c.requires c.loop-k.invariant c.loop-k-test.true c.if-n-x.false (sym c.is_seated.ensures ∙ c.if-is_seated.false)

pub returns : goal.returns
returns c =
    let so-far = c.loop-k.invariant in
    seating_end _ _ _ _ so-far c.loop-k-test.false

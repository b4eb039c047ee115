-- The first n bytes of the buffer are the value's first, gathered up to `at`.
use Rattle.std.proofs.Common.{◌-◌, length}
use Rattle.strings.proofs.PouringLaws.{Poured}
use Rattle.strings.proofs.decoding.pour.Given as goal

abbrev pub invariant-loop-more : goal.invariant-loop-more
invariant-loop-more l = Poured l.text l.offset l.fn.start l.fn.value l.value l.at l.n

abbrev pub decreases-loop-more : goal.decreases-loop-more
decreases-loop-more l = length l.text - l.at.0

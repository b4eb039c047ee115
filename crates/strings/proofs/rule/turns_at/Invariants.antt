-- The walk came here with nothing gathered.
use Rattle.std.proofs.Common.{◌-◌, length, []}
use Rattle.strings.specs.inner.Walking.{Sound, Comes}
use Rattle.strings.proofs.rule.turns_at.Given as goal

abbrev pub invariant-loop-c : goal.invariant-loop-c
invariant-loop-c l = record { comes : Comes l.text l.offset l.fn.from l.fn.start l.inside [] l.at; sound : Sound l.inside }

abbrev pub decreases-loop-c : goal.decreases-loop-c
decreases-loop-c l = length l.text - l.at.0

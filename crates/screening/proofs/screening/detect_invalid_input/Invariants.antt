-- The answer is what one walk from `at` on gives after what was got so far.
use Rattle.std.proofs.Common.{◌≡◌, ◌-◌, length}
use Rattle.chars.specs.View.{chars_from}
use Rattle.screening.specs.Screening.{invalid_input}
use Rattle.screening.specs.inner.OneWalk.{judged}
use Rattle.screening.proofs.screening.detect_invalid_input.Given as goal

abbrev pub invariant-loop-c : goal.invariant-loop-c
invariant-loop-c l = invalid_input l.text ≡ judged l.so_far (chars_from l.text l.at)

abbrev pub decreases-loop-c : goal.decreases-loop-c
decreases-loop-c l = length l.text - l.at.0

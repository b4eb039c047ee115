-- The run from the start is the run from here on.
use Rattle.std.proofs.Common.{◌≡◌, ◌-◌, length}
use Rattle.chars.specs.View.{folded_from}
use Rattle.runs.specs.Comments as rules
use Rattle.runs.specs.inner.Runs.{class_of}
use Rattle.runs.proofs.runs.run_on.Given as goal

abbrev pub invariant-loop-c : goal.invariant-loop-c
invariant-loop-c l =
    rules.run (class_of l.run) (folded_from l.text l.initial.at) ≡ rules.run (class_of l.run) (folded_from l.text l.at)

abbrev pub decreases-loop-c : goal.decreases-loop-c
decreases-loop-c l = length l.text - l.at.0

-- Each turn passes a keylike continuation, so the run from `from` on ends where the run from `at` on does.
use Prim.Native.Nat.{◌-◌}
use mathlib.Core.Path.{◌≡◌}
use lib.ListN.{length}
use Rattle.chars.specs.View.{folded_from}
use Rattle.classes.specs.inner.Runs.{keylike_end}
use Rattle.classes.proofs.runs.keylike_end.Given as goal

abbrev pub invariant-loop-c : goal.invariant-loop-c
invariant-loop-c l = keylike_end (folded_from l.text l.fn.from) ≡ keylike_end (folded_from l.text l.at)

abbrev pub decreases-loop-c : goal.decreases-loop-c
decreases-loop-c l = length l.text - l.at.0

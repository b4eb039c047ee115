use Rattle.std.proofs.Common.{◌≡◌, ◌-◌, length}
use Rattle.steps.specs.Stream.{tokens_from}
use Rattle.steps.specs.Steps.{next_step}
use Rattle.steps.proofs.stepping.next_step.Given as goal

abbrev pub invariant-loop-lexeme : goal.invariant-loop-lexeme
invariant-loop-lexeme l = next_step l.from (tokens_from l.text l.offset l.from) ≡ next_step l.from (tokens_from l.text l.offset l.at)

abbrev pub decreases-loop-lexeme : goal.decreases-loop-lexeme
decreases-loop-lexeme l = length l.text - l.at.0

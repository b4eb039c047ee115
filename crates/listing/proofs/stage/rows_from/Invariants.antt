use Rattle.std.proofs.Common.{◌-◌, length}
use Rattle.listing.proofs.StageLaws.{Walked}
use Rattle.listing.proofs.stage.rows_from.Given as goal

abbrev pub invariant-loop-lexeme : goal.invariant-loop-lexeme
invariant-loop-lexeme l = Walked l.listing l.text l.offset l.initial.at l.at l.count l.initial.staged l.staged

abbrev pub decreases-loop-lexeme : goal.decreases-loop-lexeme
decreases-loop-lexeme l = length l.text - l.at.0

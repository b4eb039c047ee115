-- Some bytes are gathered, of which count and seen are known.
use Rattle.std.proofs.Common.{◌-◌, length}
use Rattle.strings.proofs.RuleLaws.{Reached}
use Rattle.strings.proofs.rule.expect_string_literal.Given as goal

abbrev pub invariant-loop-here : goal.invariant-loop-here
invariant-loop-here l = Reached l.text l.offset l.fn.at l.here l.count l.seen

abbrev pub decreases-loop-here : goal.decreases-loop-here
decreases-loop-here l = length l.text - l.here.0

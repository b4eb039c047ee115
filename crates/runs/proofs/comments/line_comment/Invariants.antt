-- The comment from the start is the one from here on.
use Rattle.std.proofs.Common.{◌≡◌, ◌-◌, length}
use Rattle.chars.specs.View.{folded_from}
use Rattle.runs.specs.Comments.{line_comment}
use Rattle.runs.proofs.comments.line_comment.Given as goal

abbrev pub invariant-loop-c : goal.invariant-loop-c
invariant-loop-c l = line_comment (folded_from l.text l.initial.at) ≡ line_comment (folded_from l.text l.at)

abbrev pub decreases-loop-c : goal.decreases-loop-c
decreases-loop-c l = length l.text - l.at.0

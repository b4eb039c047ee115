-- The comment from the start is the one from here on in this state, which is one deep at least, and deeper by no more than the bytes passed.
use Rattle.std.proofs.Common.{◌≡◌, ◌-◌, ◌+◌, ◌≤◌, length}
use Rattle.chars.specs.View.{folded_from}
use Rattle.runs.specs.declared.Block.{Block}
use Rattle.runs.specs.Comments.{block_comment}
use Rattle.runs.specs.inner.Runs.{depth_of}
use Rattle.runs.proofs.comments.block_comment.Given as goal

abbrev pub invariant-loop-c : goal.invariant-loop-c
invariant-loop-c l =
    (block_comment l.start (Block.Other 1) (folded_from l.text l.initial.at) ≡ block_comment l.start l.block (folded_from l.text l.at))
    × (1 ≤ depth_of l.block)
    × (depth_of l.block ≤ l.at.0 + 1)

abbrev pub decreases-loop-c : goal.decreases-loop-c
decreases-loop-c l = length l.text - l.at.0

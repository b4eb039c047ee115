-- A byte is stored where there is room; a character's bytes are those of `encoded`.
use Rattle.std.proofs.Common.{arith}
use Rattle.strings.specs.Strings.{added}
use Rattle.strings.proofs.WritingLaws.{stored_one, stored_whole}
use Rattle.strings.proofs.More.put.Goals as goal

pub bounds-buffer-0 : goal.bounds-buffer-0
unfolding added
bounds-buffer-0 c = let asked = rw c.in-One.is at c.requires in omega (arith, asked.1)

pub returns-in-One : goal.returns-in-One
unfolding added
returns-in-One c = let asked = rw c.in-One.is at c.requires in rw c.in-One.is (stored_one _ _ (omega (arith, asked.1)))

pub returns-in-Whole : goal.returns-in-Whole
unfolding added
returns-in-Whole c =
    let asked = rw c.in-Whole.is at c.requires in
    rw (c.in-Whole.is, c.unwrap_or.ensures) (stored_whole _ _ asked.0 asked.1 _ _ c.encode.ensures)

-- The verdict from the start on is the one from here on, in the part that the walk is in.
use Rattle.std.proofs.Common.{◌≡◌, ◌-◌}
use Rattle.chars.specs.View.{chars_from}
use Rattle.parts.specs.declared.Part.{Part}
use Rattle.parts.specs.Parts.{parts_from}
use Rattle.parts.proofs.parts.check_parts.Given as goal

abbrev pub invariant-loop-at : goal.invariant-loop-at
invariant-loop-at l = parts_from l.start l.end Part.First (chars_from l.text l.fn.from) ≡ parts_from l.start l.end l.part (chars_from l.text l.at)

abbrev pub decreases-loop-at : goal.decreases-loop-at
decreases-loop-at l = l.end.0 - l.at.0

use Rattle.std.proofs.Common.{◌≡◌, ◌-◌}
use Rattle.terms.specs.Terms.{first}
use Rattle.sheets.specs.Checks.{outside, first_outside}
use Rattle.sheets.proofs.shape.all_inside.Given as goal

abbrev pub invariant-loop-row : goal.invariant-loop-row
invariant-loop-row l = first_outside l.words.all.now l.names ≡ first (outside l.words.all.now l.names) l.row (l.rows - l.row)

use Rattle.std.proofs.Common.{◌≡◌, ◌*◌, ◌-◌, ◌≤◌}
use Rattle.sheets.specs.Words.{items}
use Rattle.sheets.specs.Checks.{runs_on}
use Rattle.sheets.proofs.words.Words.runs_on.Given as goal

abbrev pub invariant-loop-i : goal.invariant-loop-i
invariant-loop-i l = record {
  small : l.k ≤ l.i * 4294967296;
  so-far : runs_on l.self.all.now 0 (items l.self.all.now) 0 ≡ runs_on l.self.all.now l.i (items l.self.all.now - l.i) l.k;
}

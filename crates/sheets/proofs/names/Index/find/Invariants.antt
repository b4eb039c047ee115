use Rattle.std.proofs.Common.{◌≡◌, ◌-◌, ◌≤◌, length}
use Rattle.terms.specs.Terms.{first}
use Rattle.sheets.specs.Checks.{named, found}
use Rattle.sheets.proofs.names.Index.find.Given as goal

abbrev pub invariant-loop-i : goal.invariant-loop-i
invariant-loop-i l = record {
  within : l.from ≤ length l.self.signatures.now;
  so-far : found l.self.sheet.words.all.now l.self.sheet.names.now (length l.self.signatures.now) l.name
      ≡ first (named l.self.sheet.words.all.now l.self.sheet.names.now l.name) l.from (length l.self.signatures.now - l.from);
}

abbrev pub decreases-loop-i : goal.decreases-loop-i
decreases-loop-i l = length l.self.signatures.now - l.from

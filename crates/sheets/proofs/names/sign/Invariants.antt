use Rattle.std.proofs.Common.{◌≡◌, ◌-◌}
use Rattle.terms.specs.Terms.{first, over}
use Rattle.sheets.specs.Words.{items}
use Rattle.sheets.specs.Checks.{repeats, first_repeat}
use Rattle.sheets.specs.inner.Signatures.{signatures_of}
use Rattle.sheets.proofs.names.sign.Given as goal

abbrev pub invariant-loop-i : goal.invariant-loop-i
invariant-loop-i l = record {
  so-far : first_repeat l.sheet.words.all.now l.sheet.names.now
      ≡ first (repeats l.sheet.words.all.now l.sheet.names.now) l.i (items l.sheet.words.all.now - l.i);
  written : l.signatures ≡ over (signatures_of l.sheet.words.all.now l.sheet.names.now l.i) l.initial.signatures;
}

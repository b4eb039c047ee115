use Rattle.std.proofs.Common.{◌≡◌, ◌-◌}
use Rattle.terms.specs.Terms.{first}
use Rattle.sheets.specs.Words.{items}
use Rattle.sheets.specs.Edges.{reaches}
use Rattle.sheets.proofs.shape.Sheet.owner.Given as goal

abbrev pub invariant-loop-i : goal.invariant-loop-i
invariant-loop-i l =
    first (reaches l.self.words.all.now l.k) l.from (items l.self.words.all.now - l.from)
    ≡ first (reaches l.self.words.all.now l.k) l.i (items l.self.words.all.now - l.i)

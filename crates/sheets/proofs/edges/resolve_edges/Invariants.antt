-- Edge by edge: the edges before k name items, the tables have their items and targets, and each slot has one of them, or none.
use Rattle.std.proofs.Common.{◌≡◌, ◌-◌, ◌<◌, ℕ, length, get_or}
use Rattle.std.specs.Prelude.{Some, None}
use Rattle.terms.specs.Terms.{first, over}
use Rattle.sheets.specs.Words.{items, listed}
use Rattle.sheets.specs.Checks.{unlisted, first_unlisted}
use Rattle.sheets.specs.Edges.{reaches, owners_of, targets_of}
use Rattle.sheets.proofs.edges.resolve_edges.Given as goal

abbrev pub invariant-loop-k : goal.invariant-loop-k
invariant-loop-k l = record {
  so-far : first_unlisted l.sheet.words.all.now l.sheet.names.now
      ≡ first (unlisted l.sheet.words.all.now l.sheet.names.now) l.k (listed l.sheet.words.all.now - l.k);
  owner : first (reaches l.sheet.words.all.now l.k) 0 (items l.sheet.words.all.now)
      ≡ first (reaches l.sheet.words.all.now l.k) l.o (items l.sheet.words.all.now - l.o);
  owners-are : l.owners ≡ over (owners_of l.sheet.words.all.now l.k) l.initial.owners;
  targets-are : l.targets ≡ over (targets_of l.sheet.words.all.now l.sheet.names.now l.k) l.initial.targets;
  earlier : (j e : ℕ) → j < 512 → get_or l.known j None ≡ Some e → e < l.k;
  slots : length l.known ≡ 512;
}

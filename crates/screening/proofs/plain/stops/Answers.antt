-- The library's search answers `member`, and `odd` the rest.
use Rattle.std.proofs.Common.{sym, ◌∙◌}
use Rattle.screening.specs.inner.Plain.{halts}
use Rattle.screening.proofs.PlainLaws.{any_member}
use Rattle.screening.proofs.plain.stops.Goals as goal

pub returns-then-contains : goal.returns-then-contains
unfolding halts
returns-then-contains c =
    let m = sym (any_member c.args.b c.args.less) ∙ sym c.contains.ensures.value ∙ c.if-contains.true in
    rw (m, c.if-contains.true)

pub returns-else-contains : goal.returns-else-contains
unfolding halts
returns-else-contains c =
    let m = sym (any_member c.args.b c.args.less) ∙ sym c.contains.ensures.value ∙ c.if-contains.false in
    rw (m, c.odd.ensures)

-- A mark ends the copy, and so does the end of the text; each byte before it goes to its place.
use Rattle.std.proofs.Common.{◌≡◌, ◌-◌, sym, ◌∙◌, arith}
use Rattle.strings.proofs.WritingLaws.{copied_none, copied_mark, copied_end, copied_next, copied_on}
use Rattle.strings.proofs.decoding.copy_raw.Goals as goal

pub loop-k-init : goal.loop-k-init
loop-k-init c = copied_none _ _ _

pub returns-then-is_mark : goal.returns-then-is_mark
returns-then-is_mark c = copied_mark _ _ _ _ _ c.loop-k.invariant c.loop-k-test.true (sym c.is_mark.ensures ∙ c.if-is_mark.true)

pub loop-k-preserved : goal.loop-k-preserved
loop-k-preserved c = copied_on _ _ _ _ _ c.loop-k.invariant c.requires c.loop-k-test.true (sym c.is_mark.ensures ∙ c.if-is_mark.false)

pub bounds-buffer-k : goal.bounds-buffer-k
bounds-buffer-k c =
    rw c.loop-k.auto.buffer
    (copied_next _ _ _ _ _ c.loop-k.invariant c.requires c.loop-k-test.true (sym c.is_mark.ensures ∙ c.if-is_mark.false))

pub returns : goal.returns
returns c =
    let e : c.saturating_sub.result ≡ c.loop-k.k - c.args.at.0 = omega (arith, c.saturating_sub.ensures, c.loop-k-test.false, c.loop-k.invariant.inside) in
    rw e (copied_end _ _ _ _ _ c.loop-k.invariant c.loop-k-test.false)

use Rattle.std.proofs.Common.{sym, ◌∙◌, arith}
use Rattle.sheets.proofs.CheckLaws.{runs_step, runs_gap, runs_end}
use Rattle.sheets.proofs.words.Words.runs_on.Goals as goal

pub returns-then-first_edge-k : goal.returns-then-first_edge-k
returns-then-first_edge-k c =
    sym (c.loop-i.invariant.so-far ∙ runs_gap _ _ _ _ (omega arith) (λ e. c.if-first_edge-k.true (c.first_edge.ensures.0 ∙ e)))

pub loop-i-preserved : goal.loop-i-preserved
loop-i-preserved c = record {
  small = omega arith;
  so-far = rw c.edge_count-k.ensures.0 (c.loop-i.invariant.so-far ∙ runs_step _ _ _ _ (omega arith) (sym c.first_edge.ensures.0 ∙ c.if-first_edge-k.false));
}

pub returns : goal.returns
returns c = rw c.listed.ensures (sym (c.loop-i.invariant.so-far ∙ runs_end _ _ _ _ (omega arith)))

use Rattle.std.proofs.Common.{arith}
use Rattle.clerk.proofs.RowLaws.{row_edge, row_in, row_count, row_few}
use Rattle.clerk.proofs.Tallied.{tallied_small, tallied_more, tracks_of}
use Rattle.clerk.proofs.State.start.Goals as goal

pub overflow_add-s : goal.overflow_add-s
overflow_add-s c =
    let rows = c.args.edges.rows in
    let here = c.loop-o-test.true in
    omega (arith, row_few _ _ rows, tallied_small _ _ _ c.loop-o.invariant.tallied _ _ (row_in _ _ rows _ here) (row_edge _ _ rows _ here) (rows.owners _ here))

pub loop-o-preserved : goal.loop-o-preserved
loop-o-preserved c =
    let rows = c.args.edges.rows in
    let here = c.loop-o-test.true in
    record {
      tallied = tallied_more _ _ _ c.loop-o.invariant.tallied _ _ (row_in _ _ rows _ here) (row_edge _ _ rows _ here) (rows.owners _ here);
      none-placed = c.loop-o.invariant.none-placed;
      none-settled = c.loop-o.invariant.none-settled;
    }

pub returns : goal.returns
returns c =
    let rows = c.args.edges.rows in
    let done = c.loop-o.invariant in
    (tracks_of _ _ _ (row_few _ _ rows) done.tallied (omega (arith, row_count _ _ rows)) done.none-placed done.none-settled, done.none-placed)

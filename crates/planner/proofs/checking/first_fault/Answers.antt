use Rattle.std.proofs.Common.{length, ◌∙◌, arith}
use Rattle.std.proofs.lemmas.List.{length_push}
use Rattle.std.proofs.lemmas.Slice.Zip.{zip_turn, zip_end}
use lib.Seq.{take_all}
use Rattle.clerk.specs.inner.Listed.{edges_in}
use Rattle.clerk.proofs.RowLaws.{row_edge, row_in, row_count}
use Rattle.planner.proofs.SeatLaws.{fault_start, fault_next}
use Rattle.planner.proofs.checking.first_fault.Goals as goal

pub loop-item-init : goal.loop-item-init
loop-item-init c = fault_start _ _ _ c.args.edges.few c.requires

pub loop-item-preserved : goal.loop-item-preserved
loop-item-preserved c =
    let rows = c.args.edges.rows in
    let here =
    zip_turn c.args.edges.owners.now c.args.edges.targets.now c.loop-item.yielded c.into_iter-item-iterator.result c.loop-item.item-iterator c.next.new.self c.next.result (cc) (cc) c.loop-item.yielded_by (c.in-Some.item, c.in-Some.target) c.in-Some.is c.next.ensures.steps in
    rw (length_push c.loop-item.yielded (c.in-Some.item, c.in-Some.target))
    (fault_next _ _ _ c.args.edges.few c.requires _ _ _ _ (row_in _ _ rows _ here.0) (row_edge _ _ rows _ here.0) (rows.owners _ here.0)
    (rows.targets _ here.0) _ _ c.loop-item.invariant (rw (here.2 0, here.3 0) at c.sooner-fault.ensures))

pub returns : goal.returns
returns c =
    let end =
    zip_end c.args.edges.owners.now c.args.edges.targets.now c.loop-item.yielded c.into_iter-item-iterator.result c.loop-item.item-iterator c.next.new.self c.next.result (cc) (cc) c.loop-item.yielded_by c.in-None.is c.next.ensures.steps in
    c.loop-item.invariant ∙ rw (take_all (length c.loop-item.yielded) (edges_in c.args.edges) (omega (arith, end, c.args.edges.rows.even, row_count _ _ c.args.edges.rows)))

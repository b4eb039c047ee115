use Rattle.std.proofs.Common.{◌≡◌, ◌∙◌, arith, rules}
use Rattle.std.specs.Prelude.{Err}
use Rattle.answers.specs.Caps.{accepted}
use Rattle.sheets.specs.Checks.{sheet_verdict}
use Rattle.sheets.proofs.AcceptedLaws.{resolved_verdict, resolved_accepts, owners_are, targets_are}
use Rattle.sheets.specs.Words.{listed}
use Rattle.clerk.proofs.Answering.{rows_of}
use Rattle.planner.proofs.Answering.{refuse_sheet, judge_list}
use Rattle.planner.proofs.check_order.Goals as goal
use lib.Seq.{length-take-le}

pub returns-in_err-resolve : goal.returns-in_err-resolve
returns-in_err-resolve c =
    let e : c.from_residual.result ≡ Err c.in_err-resolve.field-0.0 = search rules in
    rw e (refuse_sheet _ _ _ _ (resolved_verdict _ _ _ _ (omega arith) (omega arith) _ _ _ c.resolve.ensures ∙ c.in_err-resolve.was))

pub bounds-sheet-0 : goal.bounds-sheet-0
bounds-sheet-0 c = omega (arith, (resolved_accepts _ _ _ _ (omega arith) (omega arith) _ _ _ c.resolve.ensures c.in_ok-resolve.was).shape.size)

pub bounds-sheet-1 : goal.bounds-sheet-1
bounds-sheet-1 c = omega (arith, (resolved_accepts _ _ _ _ (omega arith) (omega arith) _ _ _ c.resolve.ensures c.in_ok-resolve.was).shape.size)

pub slice_bounds-owners-end : goal.slice_bounds-owners-end
slice_bounds-owners-end c =
    omega (arith, (resolved_accepts _ _ _ _ (omega arith) (omega arith) _ _ _ c.resolve.ensures c.in_ok-resolve.was).shape.few_edges, c.resolve.auto.owners)

pub slice_bounds-edges-end : goal.slice_bounds-edges-end
slice_bounds-edges-end c =
    let few = (resolved_accepts _ _ _ _ (omega arith) (omega arith) _ _ _ c.resolve.ensures c.in_ok-resolve.was).shape.few_edges in
    omega (arith, length-take-le (listed c.args.sheet.now) c.resolve.new.owners (omega (arith, few, c.resolve.auto.owners)))

pub slice_bounds-targets-end : goal.slice_bounds-targets-end
slice_bounds-targets-end c =
    omega (arith, (resolved_accepts _ _ _ _ (omega arith) (omega arith) _ _ _ c.resolve.ensures c.in_ok-resolve.was).shape.few_edges, c.resolve.auto.targets)

pub slice_bounds-edges-end-2 : goal.slice_bounds-edges-end-2
slice_bounds-edges-end-2 c =
    let few = (resolved_accepts _ _ _ _ (omega arith) (omega arith) _ _ _ c.resolve.ensures c.in_ok-resolve.was).shape.few_edges in
    omega (arith, length-take-le (listed c.args.sheet.now) c.resolve.new.targets (omega (arith, few, c.resolve.auto.targets)))

pub invariant_of-edges : goal.invariant_of-edges
invariant_of-edges c =
    let accepts = resolved_accepts _ _ _ _ (omega arith) (omega arith) _ _ _ c.resolve.ensures c.in_ok-resolve.was in
    let ok : sheet_verdict c.args.sheet.now c.args.names.now ≡ accepted = resolved_verdict _ _ _ _ (omega arith) (omega arith) _ _ _ c.resolve.ensures ∙ c.in_ok-resolve.was in
    record {
      few = accepts.shape.few;
      rows = rows_of _ _ _ _ accepts (owners_are _ _ _ _ (omega arith) (omega arith) ok _ _ _ c.resolve.ensures) (targets_are _ _ _ _ (omega arith) (omega arith) ok _ _ _ c.resolve.ensures);
    }

pub returns : goal.returns
returns c =
    let ok : sheet_verdict c.args.sheet.now c.args.names.now ≡ accepted = resolved_verdict _ _ _ _ (omega arith) (omega arith) _ _ _ c.resolve.ensures ∙ c.in_ok-resolve.was in
    judge_list _ _ _ ok _ _ (owners_are _ _ _ _ (omega arith) (omega arith) ok _ _ _ c.resolve.ensures)
    (targets_are _ _ _ _ (omega arith) (omega arith) ok _ _ _ c.resolve.ensures) _ c.check_list.ensures

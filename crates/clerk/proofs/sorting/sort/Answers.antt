use Rattle.std.proofs.Common.{◌≡◌, refl, sym, ◌∙◌, rules}
use Rattle.std.specs.Prelude.{Some}
use Rattle.graph.specs.Order.{first_stuck}
use Rattle.sheets.proofs.FoundLaws.{before_some, index_found}
use Rattle.clerk.specs.inner.Listed.{edges_in}
use Rattle.clerk.specs.inner.State.{placed_of}
use Rattle.clerk.proofs.Ending.{ends_ordered, ends_stuck, stuck_found}
use Rattle.clerk.proofs.sorting.sort.Goals as goal

pub returns-then-s-edges : goal.returns-then-s-edges
returns-then-s-edges c = ends_ordered _ _ _ c.run-s.ensures _ _ c.if-s-edges.true c.write_order.ensures

pub unwrap-edge-requires : goal.unwrap-edge-requires
unwrap-edge-requires c =
    let e : c.first_stuck.result ≡ Some (first_stuck (edges_in c.args.edges) (placed_of c.run-s.result)) =
    c.first_stuck.ensures ∙ sym (before_some _ _ _ refl (stuck_found _ _ _ c.run-s.ensures c.if-s-edges.false)) in
    rw e (search rules)

pub returns : goal.returns
returns c = ends_stuck _ _ _ c.run-s.ensures _ c.if-s-edges.false _ (index_found _ _ _ (sym c.unwrap-edge.ensures ∙ c.first_stuck.ensures)).0

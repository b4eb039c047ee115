-- The closure tests the last code points, which ascend by `lasts_ascend`, so the search points at the first range that ends at c or later.
use borrow.Author.Rules.{rules}
use lib.Dec.{ltb}
use Rattle.std.proofs.lemmas.List.Sorted.{IsPartitionPoint-from_clause, IsPartitionedBy-ltb}
use Rattle.classes.proofs.SearchLaws.{lasts_ascend, pointed}
use Rattle.classes.proofs.ranges.in_ranges.Goals as goal

pub returns : goal.returns
returns c =
    let rs = c.args.ranges.now in
    let point = IsPartitionPoint-from_clause (λ r. ltb r.1 c.args.c) rs _ c.partition_point-i.ensures.partitioned
    (IsPartitionedBy-ltb (λ r. r.1) rs c.args.c (lasts_ascend rs c.requires)) (λ a r q k. search rules) in
    pointed rs c.requires c.args.c _ c.get.result _ _ point (search rules) c.is_some_and.ensures (λ x p. search rules)

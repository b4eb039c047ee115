-- The edges as the code reads them off its two tables.
use Prim.Native.Nat.{ℕ, ◌≤◌, ◌<◌}
use mathlib.Core.Path.{◌≡◌}
use mathlib.Core.List.{List}
use native.Mathlib.Omega.{arith}
use lib.ListN.{length, get_or}
use Rattle.graph.specs.Order.{edges, no_edge}
use Rattle.graph.proofs.OrderLaws.{edges_at, edges_length}
use Rattle.clerk.specs.inner.Rows.{Rows}

module _ (os ts : List ℕ) (r : Rows os ts) where
  pub row_edge : (k : ℕ) → k < length os → get_or (edges os ts) k no_edge ≡ record { item = get_or os k 0; target = get_or ts k 0 }
  row_edge k l = edges_at os ts k r.even l

  pub row_count : length (edges os ts) ≡ length os
  row_count = edges_length os ts r.even

  pub row_in : (k : ℕ) → k < length os → k < length (edges os ts)
  row_in k l = omega (arith, row_count)

  pub row_few : length (edges os ts) ≤ 2048
  row_few = omega (arith, row_count, r.few)

-- What the code reads off the state is what the definitions say.
use Prim.Native.Nat.{ℕ, suc, ◌+◌, ◌-◌, ◌*◌, ◌≤◌, ◌<◌}
use mathlib.Core.Path.{◌≡◌, sym, ◌∙◌}
use mathlib.Core.Bool.{Bool, true, false, not, ◌&&◌}
use mathlib.Core.List.{List}
use native.Mathlib.Nat.{add-zero}
use native.Mathlib.Omega.{arith}
use lib.ListN.{length, get_or}
use lib.Seq.{length-take-le}
use lib.Dec.{eqb, ltb}
use borrow.Author.Tests.{ne_eqb, lt-ltb, le-ltb}
use Rattle.terms.specs.Terms.{bit, first, member}
use Rattle.terms.proofs.FirstLaws.{first_cong}
use Rattle.terms.proofs.CountLaws.{count_le}
use Rattle.graph.specs.Order.{Edge, waits, ready, next, unmet, order, placing, edges, stuck_at}
use Rattle.graph.proofs.OrderLaws.{placing_more, placing_stop}
use Rattle.clerk.specs.declared.State.{State}
use Rattle.clerk.specs.inner.State.{placed_of, free, Tracks, Placed, Ran}
use Rattle.clerk.specs.inner.Rows.{Rows}
use Rattle.clerk.proofs.RowLaws.{row_edge}
use Rattle.std.specs.Prelude.{Option, Some, None}
use Rattle.sheets.specs.inner.Found.{before}
use Rattle.sheets.proofs.FoundLaws.{index_found, end_reached}

module _ (es : List Edge) (s : State) (tr : Tracks es s) where
  tracks_ready : (i : ℕ) → i < 256 → free s.left i ≡ ready es (placed_of s) i
  unfolding free
  tracks_ready i h = rw (tr.left i h) (go (member i (placed_of s)))
    where
      go : (m : Bool) → eqb (unmet es (placed_of s) i + 4096 * bit m) 0 ≡ (not m && eqb (unmet es (placed_of s) i) 0)
      go true = ne_eqb (unmet es (placed_of s) i + 4096) 0 (λ e. omega arith)
      go false = rw (add-zero (unmet es (placed_of s) i))

  next_free : (n : ℕ) → n ≤ 256 → first (free s.left) 0 n ≡ next es n (placed_of s)
  next_free n h = first_cong (free s.left) (ready es (placed_of s)) n 0 (λ k a b. tracks_ready k (omega arith))

  pub next_is : (n i : ℕ) → n ≤ 256 → Some i ≡ before n (first (free s.left) 0 n) → (i ≡ next es n (placed_of s)) × (i < n)
  next_is n i h e =
      let f = index_found n (first (free s.left) 0 n) i e in
      (f.0 ∙ next_free n h, f.1)

  pub next_none : (n : ℕ) → n ≤ 256 → ◌≡◌ {A = Option ℕ} None (before n (first (free s.left) 0 n)) → n ≤ next es n (placed_of s)
  next_none n h e = omega (arith, end_reached n (first (free s.left) 0 n) e, next_free n h)

  -- a count below 4,096 is that of an item that is not placed
  pub unplaced : (i : ℕ) → i < 256 → ltb (get_or s.left i 0) 4096 ≡ not (member i (placed_of s))
  unplaced i h = go (member i (placed_of s)) (tr.left i h)
    where
      go : (m : Bool) → get_or s.left i 0 ≡ unmet es (placed_of s) i + 4096 * bit m → ltb (get_or s.left i 0) 4096 ≡ not m
      go true e = le-ltb (get_or s.left i 0) 4096 (omega arith)
      go false e = lt-ltb (get_or s.left i 0) 4096 (omega (arith, tr.few, count_le (waits (placed_of s) i) es))

-- the loop of `first_stuck`: what it reads of edge k
module _ (os ts : List ℕ) (rows : Rows os ts) (s : State) (tr : Tracks (edges os ts) s) (k : ℕ) (l : k < length os) where
  pub reads_stuck : (a b : Bool) → a ≡ ltb (get_or s.left (get_or os k 0) 0) 4096 → b ≡ ltb (get_or s.left (get_or ts k 0) 0) 4096
      → stuck_at (edges os ts) (placed_of s) k ≡ (a && b)
  reads_stuck a b p q =
      rw (row_edge os ts rows k l, p ∙ unplaced (edges os ts) s tr (get_or os k 0) (rows.owners k l), q ∙ unplaced (edges os ts) s tr (get_or ts k 0) (rows.targets k l))

-- the loop of `run`
module _ (es : List Edge) (n : ℕ) (s : State) where
  pub ran_of : Tracks es s → s.placed ≤ n → length s.order ≡ 256 → order es n ≡ placed_of s → Ran es n s
  ran_of tr le long e = record {
    tracks = tr;
    ordered = sym e;
    many = rw e (sym (length-take-le s.placed s.order (omega (arith, tr.room))));
    at_most = le;
  }

  pub run_stop : order es n ≡ placing es n (n - s.placed) (placed_of s) → n ≤ next es n (placed_of s) → order es n ≡ placed_of s
  run_stop e l = e ∙ placing_stop es n (n - s.placed) (placed_of s) l

  pub run_full : order es n ≡ placing es n (n - s.placed) (placed_of s) → n ≤ s.placed → order es n ≡ placed_of s
  unfolding placing
  run_full e l =
      let z : n - s.placed ≡ 0 = omega arith in
      e ∙ rw z

  pub run_more : (x : ℕ) (r : State) → order es n ≡ placing es n (n - s.placed) (placed_of s) → s.placed < n → x ≡ next es n (placed_of s)
      → x < n → Placed es s x r → order es n ≡ placing es n (n - r.placed) (placed_of r)
  run_more x r e l q xl p =
      let z : n - s.placed ≡ suc (n - r.placed) = omega (arith, p.more) in
      e ∙ rw (z, placing_more es n (n - r.placed) (placed_of s) (rw (← q) xl), ← q, ← p.adds)

-- From the tables of a sheet that passes its checks to the answer of `toposort`.
use Rattle.std.specs.Prelude.{Err}
use Prim.Native.Nat.{ℕ, ◌≤◌, ◌<◌}
use mathlib.Core.Path.{◌≡◌}
use mathlib.Core.List.{List}
use native.Mathlib.Nat.{zero-add}
use native.Mathlib.Omega.{arith}
use lib.ListN.{length}
use borrow.Author.Tests.{le-leb, lt-leb}
use Rattle.answers.specs.Caps.{accepted}
use Rattle.answers.specs.declared.Refusal.{Refusal}
use Rattle.answers.specs.declared.Refusal.TheVariants.{NoRoom}
use Rattle.answers.proofs.CapsLaws.{first_refused, first_accepted}
use Rattle.graph.specs.Order.{edges}
use Rattle.sheets.specs.Words.{items, listed}
use Rattle.sheets.specs.Checks.{target_of, sheet_verdict}
use Rattle.sheets.specs.Edges.{owner_of, owners_of, targets_of}
use Rattle.sheets.proofs.EdgeLaws.{table_length, table_at}
use Rattle.sheets.proofs.AcceptedLaws.{Accepts, target_in}
use Rattle.clerk.specs.declared.Sorted.{Sorted}
use Rattle.clerk.specs.Sorted.{answer, room_verdict, placed, placed_by, sorted}
use Rattle.clerk.specs.inner.Rows.{Rows}

pub rows_of : (ws bs os ts : List ℕ) → Accepts ws bs → os ≡ owners_of ws (listed ws) → ts ≡ targets_of ws bs (listed ws) → Rows os ts
rows_of ws bs os ts a p q = record {
  even = rw (p, q, table_length (owner_of ws) 0 (listed ws), table_length (target_of ws bs) 0 (listed ws));
  few = rw (p, table_length (owner_of ws) 0 (listed ws)) a.shape.few_edges;
  owners = λ k l. rw (p, table_at (owner_of ws) 0 (listed ws) k (in_listed k l), zero-add k) (omega (arith, a.shape.owned k (in_listed k l), a.shape.few));
  targets = λ k l. rw (q, table_at (target_of ws bs) 0 (listed ws) k (in_listed k l), zero-add k) (omega (arith, target_in ws bs a k (in_listed k l), a.shape.few));
}
  where
    in_listed : (k : ℕ) → k < length os → k < listed ws
    in_listed k l = rw (p, table_length (owner_of ws) 0 (listed ws)) at l

-- the answer at each return of `toposort`, by the tests that led there
module _ (ws bs out : List ℕ) where
  abbrev Answered : Sorted → List ℕ → Type 0
  Answered r out' = ◌≡◌ {A = Sorted × List ℕ} (r, out') (sorted ws bs out)

  pub refuse_sheet : (f : Refusal) → sheet_verdict ws bs ≡ Err f → Answered (answer (Err f) 0) out
  unfolding sorted placed_by
  refuse_sheet f e = rw (first_refused (sheet_verdict ws bs) (room_verdict ws out) f e)

  module _ (ok : sheet_verdict ws bs ≡ accepted) where
    pub refuse_room : length out < items ws → Answered (answer (Err (NoRoom (items ws))) 0) out
    unfolding sorted placed_by room_verdict
    refuse_room l = rw (first_accepted (sheet_verdict ws bs) (room_verdict ws out) ok, lt-leb (items ws) (length out) l)

    pub accept : items ws ≤ length out → (os ts : List ℕ) → os ≡ owners_of ws (listed ws) → ts ≡ targets_of ws bs (listed ws)
        → (r : Sorted) (out' : List ℕ) → ◌≡◌ {A = Sorted × List ℕ} (r, out') (placed (edges os ts) (items ws) out) → Answered r out'
    unfolding sorted placed_by room_verdict
    accept l os ts p q r out' e = rw (first_accepted (sheet_verdict ws bs) (room_verdict ws out) ok, le-leb (items ws) (length out) l, ← p, ← q) e

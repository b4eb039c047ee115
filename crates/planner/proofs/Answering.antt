-- From the tables of a sheet that passes its checks to the answer of `check_order`.
use Rattle.std.specs.Prelude.{Err}
use Prim.Native.Nat.{ℕ}
use mathlib.Core.Path.{◌≡◌, sym}
use mathlib.Core.List.{List}
use Rattle.answers.specs.Caps.{Verdict, accepted}
use Rattle.answers.specs.declared.Refusal.{Refusal}
use Rattle.answers.proofs.CapsLaws.{first_refused, first_accepted}
use Rattle.graph.specs.Order.{edges}
use Rattle.sheets.specs.Words.{items, listed}
use Rattle.sheets.specs.Checks.{sheet_verdict}
use Rattle.sheets.specs.Edges.{owners_of, targets_of, edges_of}
use Rattle.planner.specs.Proposed.{list_verdict, checked_order}

module _ (ws bs xs : List ℕ) where
  pub refuse_sheet : (f : Refusal) → sheet_verdict ws bs ≡ Err f → Err f ≡ checked_order ws bs xs
  unfolding checked_order
  refuse_sheet f e = sym (first_refused (sheet_verdict ws bs) (list_verdict (edges_of ws bs) (items ws) xs) f e)

  pub judge_list : sheet_verdict ws bs ≡ accepted → (os ts : List ℕ) → os ≡ owners_of ws (listed ws) → ts ≡ targets_of ws bs (listed ws)
      → (r : Verdict) → r ≡ list_verdict (edges os ts) (items ws) xs → r ≡ checked_order ws bs xs
  unfolding checked_order
  judge_list ok os ts p q r e = rw (first_accepted (sheet_verdict ws bs) (list_verdict (edges_of ws bs) (items ws) xs) ok, ← p, ← q) e

-- What a sheet that passes every check has, and the tables that `resolve` then leaves.
use Rattle.std.specs.Prelude.{Ok, Err}
use Prim.Native.Nat.{ℕ, ◌≤◌, ◌<◌}
use mathlib.Core.Path.{◌≡◌, refl, sym, ◌∙◌}
use mathlib.Core.List.{List}
use native.Mathlib.Omega.{arith}
use lib.ListN.{length, take, drop}
use lib.Seq.{take_at}
use borrow.Author.Tests.{le-leb, eqb-false}
use Rattle.terms.proofs.FirstLaws.{first_le, first_none}
use Rattle.answers.specs.Caps.{first_of, Verdict, accepted}
use Rattle.answers.proofs.CapsLaws.{first_both}
use Rattle.sheets.specs.Words.{items, listed}
use Rattle.sheets.specs.Checks.{first_repeat, unlisted, first_unlisted, target_of, repeat_verdict, target_verdict, words_verdict, items_verdict, sheet_verdict}
use Rattle.sheets.specs.Edges.{owner_of, owners_of, targets_of}
use Rattle.sheets.specs.inner.Resolving.{tables_verdict, ready_verdict, resolved_by, resolved, Resolved}
use Rattle.sheets.specs.inner.Asked.{Shaped}
use Rattle.sheets.proofs.CheckLaws.{words_accepted, distinct_of, known_of}
use Rattle.sheets.proofs.EdgeLaws.{table_length, target_below}

pub record Accepts (ws bs : List ℕ) : Type 0 where
  pub shape : Shaped ws bs
  pub distinct : items ws ≤ first_repeat ws bs
  pub known : listed ws ≤ first_unlisted ws bs

module _ (ws bs : List ℕ) where
  pub accepts_of : sheet_verdict ws bs ≡ accepted → Accepts ws bs
  unfolding sheet_verdict items_verdict repeat_verdict target_verdict
  accepts_of e =
      let a = first_both (items_verdict ws bs) (target_verdict ws bs) e in
      let b = first_both (words_verdict ws bs) (repeat_verdict ws bs) a.0 in
      record {
        shape = words_accepted ws bs b.0;
        distinct = distinct_of ws bs b.1;
        known = known_of ws bs a.1;
      }

  -- each edge of an accepted sheet names an item
  pub target_in : Accepts ws bs → (k : ℕ) → k < listed ws → target_of ws bs k < items ws
  unfolding unlisted
  target_in a k l =
      omega (arith, target_below ws bs k, eqb-false (target_of ws bs k) (items ws) (first_none (unlisted ws bs) (listed ws) k a.known l))

  module _ (os ts : List ℕ) (m : 2048 ≤ length os) (n : 2048 ≤ length ts) where
    tables_fit : items_verdict ws bs ≡ accepted → tables_verdict ws os ts ≡ accepted
    unfolding items_verdict tables_verdict
    tables_fit e =
        let s = words_accepted ws bs (first_both (words_verdict ws bs) (repeat_verdict ws bs) e).0 in
        rw (le-leb (listed ws) (length os) (omega (arith, s.few_edges)), le-leb (listed ws) (length ts) (omega (arith, s.few_edges)))

    -- tables of 2,048 are never too short
    pub tables_verdict_lem : first_of (ready_verdict ws bs os ts) (target_verdict ws bs) ≡ sheet_verdict ws bs
    unfolding sheet_verdict ready_verdict first_of
    tables_verdict_lem = go (items_verdict ws bs) refl
      where
        go : (v : Verdict) → items_verdict ws bs ≡ v → first_of (first_of v (tables_verdict ws os ts)) (target_verdict ws bs) ≡ first_of v (target_verdict ws bs)
        go (Ok _) e = rw (tables_fit e)
        go (Err f) e = refl

    -- what `resolve` answers to them is the verdict on the sheet
    module _ (r : Verdict) (os' ts' : List ℕ) (done : Resolved ws bs os ts r os' ts') where
      pub resolved_verdict : sheet_verdict ws bs ≡ r
      resolved_verdict = sym (done.verdict ∙ tables_verdict_lem)

      pub resolved_accepts : r ≡ accepted → Accepts ws bs
      resolved_accepts e = accepts_of (resolved_verdict ∙ e)

    module _ (ok : sheet_verdict ws bs ≡ accepted) where
      all_resolved : resolved ws bs os ts ≡ listed ws
      unfolding sheet_verdict ready_verdict resolved_by first_of
      all_resolved =
          let i = (first_both (items_verdict ws bs) (target_verdict ws bs) ok).0 in
          rw (i, tables_fit i) (omega (arith, (accepts_of ok).known, first_le (unlisted ws bs) (listed ws) 0))

      module _ (r : Verdict) (os' ts' : List ℕ) (done : Resolved ws bs os ts r os' ts') where
        pub owners_are : take (listed ws) os' ≡ owners_of ws (listed ws)
        owners_are = rw (done.owners, all_resolved) (take_at (owners_of ws (listed ws)) (drop (length (owners_of ws (listed ws))) os) (listed ws) (table_length (owner_of ws) 0 (listed ws)))

        pub targets_are : take (listed ws) ts' ≡ targets_of ws bs (listed ws)
        targets_are = rw (done.targets, all_resolved) (take_at (targets_of ws bs (listed ws)) (drop (length (targets_of ws bs (listed ws))) ts) (listed ws) (table_length (target_of ws bs) 0 (listed ws)))

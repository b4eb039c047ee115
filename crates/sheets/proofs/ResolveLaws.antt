-- From the checks to what `resolve` promises.
use Rattle.std.specs.Prelude.{Err}
use Prim.Native.Nat.{ℕ, ◌≤◌, ◌<◌}
use mathlib.Core.Path.{◌≡◌, sym, ◌∙◌}
use mathlib.Core.List.{List}
use mathlib.Core.Logic.{◌⊎◌, inl, inr}
use lib.ListN.{length}
use borrow.Author.Tests.{lt-leb, le-leb}
use Rattle.answers.specs.Caps.{accepted, Verdict}
use Rattle.answers.specs.declared.Refusal.{Refusal}
use Rattle.answers.specs.declared.Refusal.TheVariants.{NoRoom}
use Rattle.answers.proofs.CapsLaws.{first_refused, first_accepted}
use Rattle.sheets.specs.Words.{listed}
use Rattle.sheets.specs.Checks.{repeat_verdict, target_verdict, words_verdict, items_verdict, first_unlisted}
use Rattle.sheets.specs.Edges.{owner_of}
use Rattle.sheets.specs.inner.Resolving.{tables_verdict, ready_verdict, resolved_by, resolved, Resolved}
use Rattle.sheets.specs.Checks.{target_of}
use Rattle.sheets.specs.inner.Asked.{Filled}
use Rattle.sheets.proofs.EdgeLaws.{over_none}
use native.Mathlib.Omega.{arith}

module _ (ws bs os ts : List ℕ) where
  none_resolved : (f : Refusal) → ready_verdict ws bs os ts ≡ Err f → Resolved ws bs os ts (Err f) os ts
  unfolding resolved_by
  none_resolved f e =
      let z : resolved ws bs os ts ≡ 0 = rw e in
      record {
        verdict = sym (first_refused (ready_verdict ws bs os ts) (target_verdict ws bs) f e);
        owners = rw z (over_none (owner_of ws) os);
        targets = rw z (over_none (target_of ws bs) ts);
      }

  items_refused : (f : Refusal) → items_verdict ws bs ≡ Err f → Resolved ws bs os ts (Err f) os ts
  unfolding ready_verdict
  items_refused f e = none_resolved f (first_refused (items_verdict ws bs) (tables_verdict ws os ts) f e)

  pub refuse_words : (f : Refusal) → words_verdict ws bs ≡ Err f → Resolved ws bs os ts (Err f) os ts
  unfolding items_verdict
  refuse_words f e = items_refused f (first_refused (words_verdict ws bs) (repeat_verdict ws bs) f e)

  module _ (words : words_verdict ws bs ≡ accepted) where
    pub refuse_names : (f : Refusal) → repeat_verdict ws bs ≡ Err f → Resolved ws bs os ts (Err f) os ts
    unfolding items_verdict
    refuse_names f e = items_refused f (first_accepted (words_verdict ws bs) (repeat_verdict ws bs) words ∙ e)

    module _ (distinct : repeat_verdict ws bs ≡ accepted) where
      items_passed : ready_verdict ws bs os ts ≡ tables_verdict ws os ts
      unfolding ready_verdict items_verdict
      items_passed =
          first_accepted (items_verdict ws bs) (tables_verdict ws os ts)
          (first_accepted (words_verdict ws bs) (repeat_verdict ws bs) words ∙ distinct)

      pub refuse_room : (m : ℕ) → m ≡ listed ws → (length os < m) ⊎ ((m ≤ length os) × (length ts < m)) → Resolved ws bs os ts (Err (NoRoom m)) os ts
      unfolding tables_verdict
      refuse_room m e (inl l) = rw e (none_resolved (NoRoom (listed ws)) (items_passed ∙ rw (lt-leb (listed ws) (length os) (omega arith))))
      refuse_room m e (inr l) =
          rw e (none_resolved (NoRoom (listed ws)) (items_passed ∙ rw (le-leb (listed ws) (length os) (omega arith), lt-leb (listed ws) (length ts) (omega arith))))

      pub resolves : listed ws ≤ length os → listed ws ≤ length ts → (r : Verdict) (os' ts' : List ℕ) → Filled ws bs os ts r os' ts'
          → Resolved ws bs os ts r os' ts'
      unfolding resolved_by tables_verdict
      resolves p q r os' ts' filled =
          let passed : ready_verdict ws bs os ts ≡ accepted = items_passed ∙ rw (le-leb (listed ws) (length os) p, le-leb (listed ws) (length ts) q) in
          let z : resolved ws bs os ts ≡ first_unlisted ws bs = rw passed in
          record {
            verdict = filled.verdict ∙ sym (first_accepted (ready_verdict ws bs os ts) (target_verdict ws bs) passed);
            owners = rw z filled.owners;
            targets = rw z filled.targets;
          }

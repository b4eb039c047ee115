-- 02, §6: what the check accepts and what 33 names; that each list which the proposer offers is accepted, and that the clerk's order always is.
use Rattle.std.specs.Prelude.{Err}
use Prim.Native.Nat.{ℕ, ◌≤◌, ◌<◌}
use mathlib.Core.Path.{◌≡◌, refl, sym, ◌∙◌}
use mathlib.Core.Bool.{true, false}
use mathlib.Core.List.{List}
use mathlib.Core.Logic.{◌↔◌}
use native.Mathlib.Omega.{arith}
use lib.ListN.{length, take, drop}
use lib.Seq.{take_at}
use Rattle.terms.proofs.FirstLaws.{first_le, first_passes, none_before}
use Rattle.answers.specs.Caps.{accepted}
use Rattle.answers.specs.declared.Refusal.{Refusal}
use Rattle.answers.specs.declared.Refusal.TheVariants.{NotAnOrder}
use Rattle.answers.proofs.CapsLaws.{first_refused, first_accepted, first_both}
use Rattle.sheets.specs.Words.{items}
use Rattle.sheets.specs.Checks.{sheet_verdict}
use Rattle.sheets.specs.Edges.{edges_of}
use Rattle.clerk.specs.Sorted.{room_verdict, sorted}
use Rattle.clerk.proofs.Theorems.{the_order, Verdict-is, Passes, order_exactly_if_acyclic, accepted_passes, accepted_whole, accepted_in_order}
use Rattle.planner.specs.Proposed.{LoadOrder, at_fault, first_fault, list_verdict, checked_order, proposed}
use Rattle.planner.proofs.ListLaws.{accepted_order, order_accepted, fault_by_n, refused_at, order_acyclic}

module _ (ws bs : List ℕ) where
  -- a refusal of the sheet comes first, whatever the list
  pub sheet_first : (f : Refusal) → sheet_verdict ws bs ≡ Err f → (xs : List ℕ) → checked_order ws bs xs ≡ Err f
  unfolding checked_order
  sheet_first f e xs = first_refused (sheet_verdict ws bs) (list_verdict (edges_of ws bs) (items ws) xs) f e

  module _ (ok : sheet_verdict ws bs ≡ accepted) (xs : List ℕ) where
    list_decides : checked_order ws bs xs ≡ list_verdict (edges_of ws bs) (items ws) xs
    unfolding checked_order
    list_decides = first_accepted (sheet_verdict ws bs) (list_verdict (edges_of ws bs) (items ws) xs) ok

    -- A LIST IS ACCEPTED EXACTLY IF IT IS A LOAD ORDER of the sheet's items, whoever made it
    pub accepted_exactly_if_order : (checked_order ws bs xs ≡ accepted) ↔ LoadOrder (edges_of ws bs) (items ws) xs
    accepted_exactly_if_order = (
      λ e. accepted_order (edges_of ws bs) (items ws) xs (sym list_decides ∙ e),
      λ o. list_decides ∙ order_accepted (edges_of ws bs) (items ws) xs o,
    )

    -- any other list is 33, which names the first index at fault, or the length of a short list without a fault; never an index past N
    pub record NamesFault (k : ℕ) : Type 0 where
      pub earliest : (j : ℕ) → j < k → at_fault (edges_of ws bs) (items ws) xs j ≡ false
      pub at_fault_lem : k < length xs → at_fault (edges_of ws bs) (items ws) xs k ≡ true
      pub in_list : k ≤ length xs
      pub by_n : k ≤ items ws

    pub refused_names_fault : (checked_order ws bs xs ≡ accepted → ⊥)
        → (checked_order ws bs xs ≡ Err (NotAnOrder (first_fault (edges_of ws bs) (items ws) xs))) × NamesFault (first_fault (edges_of ws bs) (items ws) xs)
    refused_names_fault not = (
      list_decides ∙ refused_at (edges_of ws bs) (items ws) xs (λ e. not (list_decides ∙ e)),
      record {
        earliest = λ j l. none_before (at_fault (edges_of ws bs) (items ws) xs) (length xs) 0 j (omega arith) l;
        at_fault_lem = λ l. first_passes (at_fault (edges_of ws bs) (items ws) xs) (length xs) 0 (omega arith);
        in_list = omega (arith, first_le (at_fault (edges_of ws bs) (items ws) xs) (length xs) 0);
        by_n = fault_by_n (edges_of ws bs) (items ws) xs;
      },
    )

  module _ (out : List ℕ) where
    sheet_ok : Verdict-is ws bs out accepted → sheet_verdict ws bs ≡ accepted
    sheet_ok e = (first_both (sheet_verdict ws bs) (room_verdict ws out) (accepted_passes ws bs out e)).0

    -- THE CLERK'S ORDER IS ALWAYS ACCEPTED
    pub clerk_accepted : Verdict-is ws bs out accepted → checked_order ws bs (the_order ws bs) ≡ accepted
    clerk_accepted e =
        let o = accepted_in_order ws bs out e in
        (accepted_exactly_if_order (sheet_ok e) (the_order ws bs)).1 (record { permutation = o.permutation; ordered = o.ordered })

    -- the proposer offers a list for every sheet that the sorter accepts, and else gives the sorter's refusal
    pub offers_as_sorted : proposed ws bs out ≡ sorted ws bs out
    unfolding proposed
    offers_as_sorted = refl

    -- EACH LIST THAT THE PROPOSER OFFERS IS ACCEPTED: the first N words of the slice
    pub offer_accepted : (proposed ws bs out).0.verdict ≡ accepted → checked_order ws bs (take (items ws) (proposed ws bs out).1) ≡ accepted
    unfolding proposed
    offer_accepted e = rw ((accepted_in_order ws bs out e).written, take_at (the_order ws bs) (drop (length (the_order ws bs)) out) (items ws) (accepted_whole ws bs out (accepted_passes ws bs out e) e)) (clerk_accepted e)

    -- where anybody's list is accepted, the sorter has an order too
    pub accepted_sorts : Passes ws bs out → (xs : List ℕ) → checked_order ws bs xs ≡ accepted → Verdict-is ws bs out accepted
    accepted_sorts p xs e =
        (order_exactly_if_acyclic ws bs out p).1
        (order_acyclic (edges_of ws bs) (items ws) xs ((accepted_exactly_if_order (first_both (sheet_verdict ws bs) (room_verdict ws out) p).0 xs).0 e))

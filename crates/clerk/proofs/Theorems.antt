-- What the answer says, in the words of demand 3: an order exactly if no chain of dependencies leads from an item to itself, what that order is, which
-- edge 30 names, and what the settled count counts.
use Rattle.std.specs.Prelude.{Ok, Err}
use Prim.Native.Nat.{ℕ, ◌+◌, ◌≤◌, ◌<◌}
use mathlib.Core.Path.{◌≡◌, refl, sym, ap, ◌∙◌}
use mathlib.Core.Bool.{Bool, true, false}
use mathlib.Core.List.{List, ◌∷◌}
use mathlib.Core.Logic.{◌↔◌}
use native.Mathlib.Nat.{zero-add}
use native.Mathlib.Omega.{arith}
use lib.ListN.{length, get_or}
use lib.Dec.{eqb}
use borrow.Author.Tests.{eq-eqb, ne_eqb, eqb-true}
use Rattle.terms.specs.Terms.{bit, count, over}
use Rattle.terms.proofs.FirstLaws.{first_passes, none_before}
use Rattle.terms.proofs.CountLaws.{count_le, mem_at}
use Rattle.answers.specs.declared.Refusal.{Refusal}
use Rattle.answers.specs.declared.Refusal.TheVariants.{TypeCycle}
use Rattle.answers.specs.Caps.{first_of, Verdict, accepted}
use Rattle.answers.proofs.CapsLaws.{first_both, refused_not}
use Rattle.graph.specs.Order.{Edge, no_edge, order, is_settled, settled, is_stuck, stuck_at, first_stuck}
use Rattle.graph.specs.Chain.{Acyclic, Targeted, Permutation, Ordered}
use Rattle.graph.proofs.OrderLaws.{edges_at, edges_length}
use Rattle.graph.proofs.Acyclic.{whole_acyclic, acyclic_whole, whole_permutation, order_ordered, stuck_is_listed}
use Rattle.sheets.specs.Words.{items, listed}
use Rattle.sheets.specs.Checks.{target_of, sheet_verdict}
use Rattle.sheets.specs.Edges.{owner_of, owners_of, targets_of, edges_of}
use Rattle.sheets.proofs.EdgeLaws.{table_length, table_at}
use Rattle.sheets.proofs.AcceptedLaws.{Accepts, accepts_of, target_in}
use Rattle.clerk.specs.Sorted.{room_verdict, placed, placed_by, sorted}

module _ (ws bs : List ℕ) where
  even : length (owners_of ws (listed ws)) ≡ length (targets_of ws bs (listed ws))
  even = table_length (owner_of ws) 0 (listed ws) ∙ sym (table_length (target_of ws bs) 0 (listed ws))

  -- a sheet has as many edges as it lists
  pub edges_listed : length (edges_of ws bs) ≡ listed ws
  edges_listed = edges_length (owners_of ws (listed ws)) (targets_of ws bs (listed ws)) even ∙ table_length (owner_of ws) 0 (listed ws)

  -- the clerk's order of the sheet's items
  abbrev pub the_order : List ℕ
  the_order = order (edges_of ws bs) (items ws)

  -- each edge of an accepted sheet has an item as its target
  pub targeted : Accepts ws bs → Targeted (edges_of ws bs) (items ws)
  targeted acc a b m = rw same (target_in ws bs acc at.0 inside)
    where
      at : (k : ℕ) × (k < length (edges_of ws bs)) × (get_or (edges_of ws bs) k no_edge ≡ record { item = a; target = b })
      at = mem_at (edges_of ws bs) no_edge (record { item = a; target = b }) m

      inside : at.0 < listed ws
      inside = rw edges_listed at at.1

      same : b ≡ target_of ws bs at.0
      same =
          ap (λ (x : Edge). x.target) (sym at.2 ∙ edges_at (owners_of ws (listed ws)) (targets_of ws bs (listed ws)) at.0 even (rw (table_length (owner_of ws) 0 (listed ws)) inside))
          ∙ table_at (target_of ws bs) 0 (listed ws) at.0 inside ∙ ap (target_of ws bs) (zero-add at.0)

  module _ (out : List ℕ) where
    -- the answer has this verdict
    abbrev pub Verdict-is : Verdict → Type 0
    Verdict-is v = (sorted ws bs out).0.verdict ≡ v

    -- the checks before the placing pass
    abbrev pub Passes : Type 0
    Passes = first_of (sheet_verdict ws bs) (room_verdict ws out) ≡ accepted

    passes_placed : Passes → sorted ws bs out ≡ placed (edges_of ws bs) (items ws) out
    unfolding sorted placed_by
    passes_placed p = rw p

    pub accepted_passes : Verdict-is accepted → Passes
    unfolding sorted placed_by
    accepted_passes e = go (first_of (sheet_verdict ws bs) (room_verdict ws out)) e
      where
        go : (v : Verdict) → (placed_by v (edges_of ws bs) (items ws) out).0.verdict ≡ accepted → v ≡ accepted
        go (Ok _) q = refl
        go (Err f) q = absurd (refused_not q)

    pub accepted_whole : Passes → Verdict-is accepted → length the_order ≡ items ws
    unfolding placed
    accepted_whole p e = go (eqb (length the_order) (items ws)) refl (rw (passes_placed p) at e)
      where
        go : (b : Bool) → eqb (length the_order) (items ws) ≡ b → (placed (edges_of ws bs) (items ws) out).0.verdict ≡ accepted → length the_order ≡ items ws
        go true q h = eqb-true (length the_order) (items ws) q
        go false q h = absurd (refused_not (rw q at h))

    -- AN ORDER COMES BACK EXACTLY IF NO CHAIN OF DEPENDENCIES LEADS FROM AN ITEM TO ITSELF, of every sheet that the checks pass
    pub order_exactly_if_acyclic : Passes → Verdict-is accepted ↔ Acyclic (edges_of ws bs) (items ws)
    unfolding placed
    order_exactly_if_acyclic p = (
      λ e. whole_acyclic (edges_of ws bs) (items ws) (accepted_whole p e),
      λ a.
          let w = acyclic_whole (edges_of ws bs) (items ws) (targeted (accepts_of ws bs (first_both (sheet_verdict ws bs) (room_verdict ws out) p).0)) a in
          rw (passes_placed p, eq-eqb (length the_order) (items ws) w),
    )

    -- what an accepted sheet has in the slice: a permutation of its items, each dependency before what needs it, and behind it what stood there
    pub record InOrder (out' : List ℕ) : Type 0 where
      pub written : out' ≡ over the_order out
      pub permutation : Permutation (items ws) the_order
      pub ordered : Ordered (edges_of ws bs) the_order

    pub accepted_in_order : Verdict-is accepted → InOrder (sorted ws bs out).1
    unfolding placed
    accepted_in_order e =
        let p = accepted_passes e in
        let w = accepted_whole p e in
        record {
          written = rw (passes_placed p, eq-eqb (length the_order) (items ws) w);
          permutation = whole_permutation (edges_of ws bs) (items ws) w;
          ordered = order_ordered (edges_of ws bs) (items ws);
        }

    -- every refusal leaves the slice as it was
    pub refused_unchanged : (f : Refusal) → Verdict-is (Err f) → (sorted ws bs out).1 ≡ out
    unfolding sorted placed_by placed
    refused_unchanged f e = go (first_of (sheet_verdict ws bs) (room_verdict ws out)) e
      where
        go : (v : Verdict) → (placed_by v (edges_of ws bs) (items ws) out).0.verdict ≡ Err f → (placed_by v (edges_of ws bs) (items ws) out).1 ≡ out
        go (Err g) q = refl
        go (Ok _) q = by (eqb (length the_order) (items ws)) refl
          where
            by : (b : Bool) → eqb (length the_order) (items ws) ≡ b → (placed (edges_of ws bs) (items ws) out).1 ≡ out
            by true t = absurd (refused_not (sym (rw t at q)))
            by false t = rw t

    -- where the checks pass and no order comes back, 30 names a listed edge with both ends unplaced, and none before it is such an edge
    pub record NamesStuck (k : ℕ) : Type 0 where
      pub inside : k < listed ws
      pub stuck : is_stuck the_order (get_or (edges_of ws bs) k no_edge) ≡ true
      pub earliest : (j : ℕ) → j < k → is_stuck the_order (get_or (edges_of ws bs) j no_edge) ≡ false

    pub cycle_names_stuck : Passes → (Verdict-is accepted → ⊥)
        → Verdict-is (Err (TypeCycle (first_stuck (edges_of ws bs) the_order))) × NamesStuck (first_stuck (edges_of ws bs) the_order)
    unfolding placed
    cycle_names_stuck p no-order = (
      rw (passes_placed p, ne_eqb (length the_order) (items ws) short),
      record {
        inside = omega (arith, edges_listed, stuck_is_listed (edges_of ws bs) (items ws) short);
        stuck = first_passes (stuck_at (edges_of ws bs) the_order) (length (edges_of ws bs)) 0 (rw (zero-add (length (edges_of ws bs))) (stuck_is_listed (edges_of ws bs) (items ws) short));
        earliest = λ j l. none_before (stuck_at (edges_of ws bs) the_order) (length (edges_of ws bs)) 0 j (omega arith) l;
      },
    )
      where
        short : length the_order ≡ items ws → ⊥
        short w = no-order (rw (passes_placed p, eq-eqb (length the_order) (items ws) w))

    -- the settled count is that of the edge rows whose target was placed, where the checks pass, and 0 else; never more than E
    pub settled_counts : Passes → (sorted ws bs out).0.settled ≡ settled (edges_of ws bs) the_order
    unfolding placed
    settled_counts p = rw (passes_placed p) (go (eqb (length the_order) (items ws)) refl)
      where
        go : (b : Bool) → eqb (length the_order) (items ws) ≡ b → (placed (edges_of ws bs) (items ws) out).0.settled ≡ settled (edges_of ws bs) the_order
        go true q = rw q
        go false q = rw q

    pub settled_at_most : Passes → (sorted ws bs out).0.settled ≤ listed ws
    settled_at_most p = omega (arith, settled_counts p, count_le (is_settled the_order) (edges_of ws bs), edges_listed)

    pub refused_settles_none : (f : Refusal) → first_of (sheet_verdict ws bs) (room_verdict ws out) ≡ Err f → (sorted ws bs out).0.settled ≡ 0
    unfolding sorted placed_by
    refused_settles_none f e = rw e

-- a dependency that is listed again is counted again
pub repeats_counted : (es : List Edge) (xs : List ℕ) (e : Edge) → settled (e ∷ e ∷ es) xs ≡ bit (is_settled xs e) + (bit (is_settled xs e) + settled es xs)
unfolding count
repeats_counted es xs e = refl

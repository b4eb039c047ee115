-- The loop of `place`, on plain lists. l and n are the counts and the settled edges after k of the edges, l₀ and n₀ before the loop.
use Prim.Native.Nat.{ℕ, zero, suc, ◌+◌, ◌-◌, ◌*◌, ◌≤◌, ◌<◌}
use mathlib.Core.Path.{◌≡◌, refl, sym, ap, ◌∙◌}
use mathlib.Core.Bool.{Bool, true, false, ◌||◌, and-false, or-true, or-false}
use mathlib.Core.List.{List, [], ◌∷◌, ◌++◌}
use native.Mathlib.Omega.{arith}
use native.Mathlib.Numerals.{add-one}
use lib.ListN.{length, get_or, set, take, drop, length-set}
use lib.Seq.{get_or-set_same, get_or-set_other, take-suc-set}
use lib.Dec.{eqb}
use borrow.Author.Tests.{eq-eqb, ne_eqb, eqb-true, eqb-false}
use Rattle.terms.specs.Terms.{bit, first, count, member}
use Rattle.terms.proofs.FirstLaws.{first_le, first_from, first_passes, none_before}
use Rattle.terms.proofs.CountLaws.{count_at, count_end, count_le, member_snoc}
use Rattle.graph.specs.Order.{Edge, edges, no_edge, waits, is_settled}
use Rattle.graph.proofs.OrderLaws.{edges_at, edges_length, hits, names, unmet_snoc, settled_snoc}
use Rattle.clerk.specs.declared.State.{State}
use Rattle.sheets.specs.inner.Bytes.{holds, byte_from}
use Rattle.sheets.specs.inner.Found.{before}
use Rattle.sheets.proofs.FoundLaws.{index_found, end_reached}
use Rattle.clerk.specs.inner.State.{placed_of, Tracks, Placed}
use Rattle.clerk.specs.inner.Rows.{Rows}
use Rattle.clerk.proofs.RowLaws.{row_edge, row_in, row_few, row_count}
use Rattle.std.specs.Prelude.{Option, Some, None}

pub record Taking (es : List Edge) (x : ℕ) (l₀ : List ℕ) (n₀ : ℕ) (l : List ℕ) (n k : ℕ) : Type 0 where
  pub counts : (i : ℕ) → i < 256 → get_or l i 0 + count (hits x i) es ≡ get_or l₀ i 0 + count (hits x i) (drop k es)
  pub names_left : n + count (names x) (drop k es) ≡ n₀ + count (names x) es
  pub size : length l ≡ 256

module _ (es : List Edge) (x : ℕ) (l₀ : List ℕ) (n₀ : ℕ) where
  pub taking_start : length l₀ ≡ 256 → Taking es x l₀ n₀ l₀ n₀ 0
  taking_start h = record { counts = λ i l. refl; names_left = refl; size = h }

  module _ (l : List ℕ) (n k : ℕ) (τ : Taking es x l₀ n₀ l n k) (o t : ℕ) (kl : k < length es) (at : get_or es k no_edge ≡ record { item = o; target = t }) where
    counted : (p : Edge → Bool) → count p (drop k es) ≡ bit (p (record { item = o; target = t })) + count p (drop (k + 1) es)
    counted p = count_at p es k no_edge kl ∙ rw at

    module _ (ol : o < 256) (e : t ≡ x) where
      pub taking_some : count (hits x o) es ≤ get_or l₀ o 0 → 1 ≤ get_or l o 0
      taking_some h =
          let b : bit (hits x o (record { item = o; target = t })) ≡ 1 = rw (eq-eqb o o refl, eq-eqb t x e) in
          omega (arith, τ.counts o ol, counted (hits x o))

      pub taking_hit : 1 ≤ get_or l o 0 → Taking es x l₀ n₀ (set l o (get_or l o 0 - 1)) (n + 1) (k + 1)
      taking_hit some = record {
        counts = λ i h. go i h (eqb o i) refl;
        names_left =
            (let b : bit (names x (record { item = o; target = t })) ≡ 1 = rw (eq-eqb t x e) in
            omega (arith, τ.names_left, counted (names x)));
        size = length-set l o _ ∙ τ.size;
      }
        where
          go : (i : ℕ) → i < 256 → (b : Bool) → eqb o i ≡ b
              → get_or (set l o (get_or l o 0 - 1)) i 0 + count (hits x i) es ≡ get_or l₀ i 0 + count (hits x i) (drop (k + 1) es)
          go i h true q =
              let b : bit (hits x i (record { item = o; target = t })) ≡ 1 = rw (q, eq-eqb t x e) in
              let g : get_or (set l o (get_or l o 0 - 1)) i 0 ≡ get_or l i 0 - 1 = rw (← eqb-true o i q, get_or-set_same l o (get_or l o 0 - 1) 0 (omega (arith, τ.size))) in
              let m : get_or l o 0 ≡ get_or l i 0 = ap (λ (j : ℕ). get_or l j 0) (eqb-true o i q) in
              omega (arith, τ.counts i h, counted (hits x i))
          go i h false q =
              let b : bit (hits x i (record { item = o; target = t })) ≡ 0 = rw q in
              let g : get_or (set l o (get_or l o 0 - 1)) i 0 ≡ get_or l i 0 = get_or-set_other l o i (get_or l o 0 - 1) 0 (λ r. eqb-false o i q (sym r)) in
              omega (arith, τ.counts i h, counted (hits x i))

  -- edges that name another item are passed over
  pub taking_skip : (l : List ℕ) (n d k : ℕ) → Taking es x l₀ n₀ l n k → k + d ≤ length es
      → ((j : ℕ) → k ≤ j → j < k + d → (get_or es j no_edge).target ≡ x → ⊥) → Taking es x l₀ n₀ l n (k + d)
  taking_skip l n zero k τ f h =
      let e : k + 0 ≡ k = omega arith in
      rw e τ
  taking_skip l n (suc d) k τ f h =
      let e : k + 1 + d ≡ k + suc d = omega arith in
      rw (← e) (taking_skip l n d (k + 1) one (omega arith) (λ j a b. h j (omega arith) (omega arith)))
    where
      counted : (p : Edge → Bool) → count p (drop k es) ≡ bit (p (get_or es k no_edge)) + count p (drop (k + 1) es)
      counted p = count_at p es k no_edge (omega arith)

      other : eqb (get_or es k no_edge).target x ≡ false
      other = ne_eqb (get_or es k no_edge).target x (h k (omega arith) (omega arith))

      one : Taking es x l₀ n₀ l n (k + 1)
      one = record {
        counts = λ i j.
            let b : bit (hits x i (get_or es k no_edge)) ≡ 0 = rw (other, and-false (eqb (get_or es k no_edge).item i)) in
            omega (arith, τ.counts i j, counted (hits x i));
        names_left =
            (let b : bit (names x (get_or es k no_edge)) ≡ 0 = rw other in
            omega (arith, τ.names_left, counted (names x)));
        size = τ.size;
      }

-- where the scan stands: at an edge that names x, or at the end
pub record Stands (os ts : List ℕ) (x : ℕ) (l₀ : List ℕ) (n₀ : ℕ) (l : List ℕ) (n k : ℕ) : Type 0 where
  pub taking : Taking (edges os ts) x l₀ n₀ l n k
  pub inside : k ≤ length ts
  pub named : k < length ts → get_or ts k 0 ≡ x

pub stands_next : (os ts : List ℕ) (x : ℕ) (l₀ : List ℕ) (n₀ : ℕ) (l : List ℕ) (n k r : ℕ) → length os ≡ length ts → Taking (edges os ts) x l₀ n₀ l n k
    → k ≤ length ts → r ≡ first (holds ts x) k (length ts - k) → Stands os ts x l₀ n₀ l n r
unfolding holds
stands_next os ts x l₀ n₀ l n k r even τ in-ts e = record {
  taking = rw (← onto) (taking_skip (edges os ts) x l₀ n₀ l n (r - k) k τ (omega (arith, below, edges_length os ts even)) other);
  inside = below;
  named = λ h. rw e (eqb-true (get_or ts (first (holds ts x) k (length ts - k)) 0) x (first_passes (holds ts x) (length ts - k) k (omega arith)));
}
  where
    below : r ≤ length ts
    below = omega (arith, first_le (holds ts x) (length ts - k) k)

    onto : k + (r - k) ≡ r
    onto = omega (arith, first_from (holds ts x) (length ts - k) k)

    other : (j : ℕ) → k ≤ j → j < k + (r - k) → (get_or (edges os ts) j no_edge).target ≡ x → ⊥
    other j a b q =
        eqb-false (get_or ts j 0) x (none_before (holds ts x) (length ts - k) k j a (omega (arith, onto)))
        (sym (ap (λ (d : Edge). d.target) (edges_at os ts j even (omega (arith, onto, below)))) ∙ q)

-- the loop of `place`: its turn at the next edge that names x, and its end
module _ (os ts : List ℕ) (rows : Rows os ts) (s : State) (x : ℕ) (tr : Tracks (edges os ts) s) (xl : x < 256) (new : member x (placed_of s) ≡ false)
    (l : List ℕ) (n from : ℕ) (τ : Taking (edges os ts) x s.left s.settled l n from) (within : from ≤ length ts) where
  stands : (r : ℕ) → r ≡ byte_from ts from x → Stands os ts x s.left s.settled l n r
  stands r e = stands_next os ts x s.left s.settled l n from r rows.even τ within e

  module _ (k : ℕ) (got : Some k ≡ before (length ts) (byte_from ts from x)) where
    at : Stands os ts x s.left s.settled l n k
    at = stands k (index_found (length ts) (byte_from ts from x) k got).0

    pub hit_in : (from ≤ k) × (k < length ts)
    unfolding holds
    hit_in =
        let f = index_found (length ts) (byte_from ts from x) k got in
        let e : k ≡ byte_from ts from x = f.0 in
        (omega (arith, first_from (holds ts x) (length ts - from) from), f.1)

    in_owners : k < length os
    in_owners = omega (arith, rows.even, hit_in.1)

    pub hit_left : 1 ≤ get_or l (get_or os k 0) 0
    hit_left =
        taking_some (edges os ts) x s.left s.settled l n k at.taking (get_or os k 0) (get_or ts k 0) (row_in os ts rows k in_owners) (row_edge os ts rows k in_owners)
        (rows.owners k in_owners) (at.named hit_in.1)
        (omega (arith, tr.left (get_or os k 0) (rows.owners k in_owners), unmet_snoc (edges os ts) (placed_of s) x (get_or os k 0) new))

    pub hit_more : Taking (edges os ts) x s.left s.settled (set l (get_or os k 0) (get_or l (get_or os k 0) 0 - 1)) (n + 1) (k + 1)
    hit_more =
        taking_hit (edges os ts) x s.left s.settled l n k at.taking (get_or os k 0) (get_or ts k 0) (row_in os ts rows k in_owners) (row_edge os ts rows k in_owners)
        (rows.owners k in_owners) (at.named hit_in.1) hit_left

  pub hits_few : n ≤ 4096
  hits_few =
      omega (arith, τ.names_left, row_few os ts rows, tr.counted, count_le (names x) (edges os ts), count_le (is_settled (placed_of s)) (edges os ts))

  pub hits_end : ◌≡◌ {A = Option ℕ} None (before (length ts) (byte_from ts from x)) → (k : ℕ) × (length (edges os ts) ≤ k) × Taking (edges os ts) x s.left s.settled l n k
  hits_end e = (
    byte_from ts from x,
    omega (arith, end_reached (length ts) (byte_from ts from x) e, row_count os ts rows, rows.even),
    (stands (byte_from ts from x) refl).taking,
  )

-- from the loop's end to what `place` promises
module _ (es : List Edge) (s : State) (x : ℕ) (tr : Tracks es s) (room : s.placed < 256) (xl : x < 256) (new : member x (placed_of s) ≡ false) where
  -- no count reaches 16 bits
  pub small : (l : List ℕ) (n k : ℕ) → Taking es x s.left s.settled l n k → length es ≤ k → get_or l x 0 ≤ 2048
  small l n k τ end =
      let m : bit (member x (placed_of s)) ≡ 0 = rw new in
      omega (arith, τ.counts x xl, count_end (hits x x) es k end, tr.left x xl, count_le (waits (placed_of s) x) es, tr.few)

  pub placed_of_lem : (l : List ℕ) (n k : ℕ) → length s.order ≡ 256 → Taking es x s.left s.settled l n k → length es ≤ k
      → Placed es s x (record { left = set l x (get_or l x 0 + 4096); order = set s.order s.placed x; placed = s.placed + 1; settled = n })
  placed_of_lem l n k order-size τ end = record {
    tracks = record {
      left = λ i h. rw (grows, member_snoc i x (placed_of s)) (mark i h (eqb i x) refl);
      counted = rw grows (omega (arith, τ.names_left, count_end (names x) es k end, tr.counted, settled_snoc es (placed_of s) x new));
      room = omega arith;
      few = tr.few;
    };
    more = refl;
    adds = grows;
    long = length-set s.order s.placed x;
  }
    where
      grows : take (s.placed + 1) (set s.order s.placed x) ≡ placed_of s ++ (x ∷ [])
      grows = rw (add-one, take-suc-set s.order s.placed x (omega arith))

      count_of : (i : ℕ) → i < 256 → get_or l i 0 ≡ count (waits (placed_of s ++ (x ∷ [])) i) es + 4096 * bit (member i (placed_of s))
      count_of i h = omega (arith, τ.counts i h, count_end (hits x i) es k end, tr.left i h, unmet_snoc es (placed_of s) x i new)

      mark : (i : ℕ) → i < 256 → (b : Bool) → eqb i x ≡ b
          → get_or (set l x (get_or l x 0 + 4096)) i 0 ≡ count (waits (placed_of s ++ (x ∷ [])) i) es + 4096 * bit (member i (placed_of s) || b)
      mark i h true q =
          let m : bit (member x (placed_of s)) ≡ 0 = rw new in
          rw (eqb-true i x q, get_or-set_same l x (get_or l x 0 + 4096) 0 (omega (arith, τ.size)), or-true (member x (placed_of s)))
          (omega (arith, count_of x xl))
      mark i h false q = rw (get_or-set_other l x i (get_or l x 0 + 4096) 0 (eqb-false i x q), or-false (member i (placed_of s))) (count_of i h)

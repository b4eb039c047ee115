-- Tables that are written from the front, and the items of edges in their sequence.
use Prim.Native.Nat.{ℕ, zero, suc, ◌+◌, ◌-◌, ◌≤◌, ◌<◌, zero-le}
use mathlib.Core.Path.{◌≡◌, refl, sym, ap, ◌∙◌}
use mathlib.Core.Bool.{false, Bool, true}
use mathlib.Core.List.{List, [], ◌∷◌, ◌++◌}
use native.Mathlib.Nat.{zero-add, add-zero, add-suc, suc-add}
use native.Mathlib.Numerals.{add-one}
use native.Mathlib.Omega.{arith}
use lib.ListN.{length, get_or, set, take, drop}
use lib.Seq.{drop-cons, set_at, append_snoc, take_at, get_or-take, get_or-set_same, get_or-set_other}
use borrow.Author.Tests.{le-ltb, ltb-false, lt-ltb, eq-eqb, ne_eqb, eqb-true, eqb-false}
use Rattle.terms.specs.Terms.{first, over}
use Rattle.terms.proofs.FirstLaws.{first_start, first_skip, first_hit, first_miss, first_from, first_le, none_before}
use Rattle.sheets.specs.Words.{items, name_of, first_edge, edge_count, listed}
use Rattle.sheets.specs.Checks.{named, target_of, first_unlisted, target_verdict, found, unlisted}
use Rattle.sheets.specs.Edges.{table, reaches, targets_of}
use Rattle.sheets.specs.inner.Found.{before}
use Rattle.sheets.proofs.FoundLaws.{index_found, end_reached}
use Rattle.std.specs.Prelude.{Err, Option, Some, None}
use Rattle.answers.specs.declared.Refusal.TheVariants.{ItemNotFound}
use Rattle.answers.specs.Caps.{accepted}
use lib.Dec.{eqb}

module _ (f : ℕ → ℕ) where
  table_snoc : (i n : ℕ) → table f i (suc n) ≡ table f i n ++ (f (i + n) ∷ [])
  unfolding table
  table_snoc i zero = rw (add-zero i)
  table_snoc i (suc n) = ap (λ (l : List ℕ). f i ∷ l) (table_snoc (suc i) n ∙ rw (suc-add i n, ← add-suc i n))

  pub table_length : (i n : ℕ) → length (table f i n) ≡ n
  unfolding table
  table_length i zero = refl
  table_length i (suc n) = ap suc (table_length (suc i) n)

  pub table_at : (i n k : ℕ) → k < n → get_or (table f i n) k 0 ≡ f (i + k)
  unfolding table
  table_at i zero k l = absurd (omega arith)
  table_at i (suc n) zero l = rw (add-zero i)
  table_at i (suc n) (suc k) l = table_at (suc i) n k (omega arith) ∙ rw (suc-add i k, ← add-suc i k)

  -- the front of a list, written entry by entry
  pub over_none : (l : List ℕ) → l ≡ over (table f 0 0) l
  unfolding table
  over_none l = refl

  pub over_front : (l : List ℕ) (k : ℕ) → take k (over (table f 0 k) l) ≡ table f 0 k
  over_front l k = take_at (table f 0 k) (drop (length (table f 0 k)) l) k (table_length 0 k)

  pub over_more : (l : List ℕ) (k x : ℕ) → k < length l → x ≡ f k → set (over (table f 0 k) l) k x ≡ over (table f 0 (k + 1)) l
  over_more l k x h e =
      rw (table_length 0 k, table_length 0 (k + 1), add-one, drop-cons l k 0, set_at (table f 0 k) (get_or l k 0) (drop (suc k) l) x k (table_length 0 k), table_snoc 0 k, zero-add k, e)
      (sym (append_snoc (table f 0 k) (f k) (drop (suc k) l)))

-- the item of the next edge is not before the item of this one
pub owner_on : (ws : List ℕ) (k n : ℕ)
    → first (reaches ws (k + 1)) 0 n ≡ first (reaches ws (k + 1)) (first (reaches ws k) 0 n) (n - first (reaches ws k) 0 n)
unfolding reaches
owner_on ws k n =
    first_start (reaches ws (k + 1)) n
    ∙ (rw (zero-add (first (reaches ws k) 0 n)) at (first_skip (reaches ws (k + 1)) (first (reaches ws k) 0 n) 0 n (omega (arith, first_le (reaches ws k) n 0)) later))
  where
    later : (j : ℕ) → 0 ≤ j → j < 0 + first (reaches ws k) 0 n → reaches ws (k + 1) j ≡ false
    later j a b =
        le-ltb (k + 1) (first_edge ws j + edge_count ws j)
        (omega (arith, ltb-false k (first_edge ws j + edge_count ws j) (none_before (reaches ws k) n 0 j a (omega arith))))

-- the loop of `owner`, where the search from item i on is the whole search, which finds an item
module _ (ws : List ℕ) (k from i : ℕ) (so-far : first (reaches ws k) from (items ws - from) ≡ first (reaches ws k) i (items ws - i))
    (owned : first (reaches ws k) from (items ws - from) < items ws) where
  pub owner_below : i < items ws
  owner_below = omega (arith, first_from (reaches ws k) (items ws - i) i)

  pub owner_here : (edge count : ℕ) → edge ≡ first_edge ws i → count ≡ edge_count ws i → k < edge + count → i ≡ first (reaches ws k) from (items ws - from)
  unfolding reaches
  owner_here edge count p q l =
      sym (so-far ∙ first_hit (reaches ws k) i (items ws) owner_below (lt-ltb k (first_edge ws i + edge_count ws i) (omega arith)))

  pub owner_later : (edge count : ℕ) → edge ≡ first_edge ws i → count ≡ edge_count ws i → edge + count ≤ k
      → first (reaches ws k) from (items ws - from) ≡ first (reaches ws k) (i + 1) (items ws - (i + 1))
  unfolding reaches
  owner_later edge count p q l =
      so-far ∙ first_miss (reaches ws k) i (items ws) owner_below (le-ltb k (first_edge ws i + edge_count ws i) (omega arith))

-- a target is an item, or N
pub target_below : (ws bs : List ℕ) (k : ℕ) → target_of ws bs k ≤ items ws
unfolding target_of
target_below ws bs k = omega (arith, first_le (named ws bs (name_of ws bs (items ws + k))) (items ws) 0)

-- the verdict on the targets
module _ (ws bs : List ℕ) (k : ℕ) (is : first_unlisted ws bs ≡ k) where
  pub refuses_edge : k < listed ws → Err (ItemNotFound k) ≡ target_verdict ws bs
  unfolding target_verdict
  refuses_edge l = rw (is, lt-ltb k (listed ws) l)

  pub accepts_edges : listed ws ≤ k → accepted ≡ target_verdict ws bs
  unfolding target_verdict
  accepts_edges l = rw (is, le-ltb k (listed ws) l)

-- the loop of `resolve_edges`: each slot has an edge before k, or none
module _ (known : List (Option ℕ)) (k : ℕ) (earlier : (j e : ℕ) → j < 512 → get_or known j None ≡ Some e → e < k) where
  pub earlier_on : (j e : ℕ) → j < 512 → get_or known j None ≡ Some e → e < k + 1
  earlier_on j e l q = omega (arith, earlier j e l q)

  pub earlier_more : (s : ℕ) → s < length known → (j e : ℕ) → j < 512 → get_or (set known s (Some k)) j None ≡ Some e → e < k + 1
  earlier_more s sl j e l q = go (eqb j s) refl
    where
      go : (t : Bool) → eqb j s ≡ t → e < k + 1
      go true w =
          let d : Some k ≡ Some e = sym (get_or-set_same known s (Some k) None sl) ∙ (rw (eqb-true j s w) at q) in
          let f : k ≡ e = cc in
          omega arith
      go false w = omega (arith, earlier j e l (sym (get_or-set_other known s j (Some k) None (eqb-false j s w)) ∙ q))

-- the target of edge k, where the edges before it are resolved
module _ (ws bs ts₀ ts : List ℕ) (k : ℕ) (written : ts ≡ over (targets_of ws bs k) ts₀) (so-far : first_unlisted ws bs ≡ first (unlisted ws bs) k (listed ws - k)) where
  entry : (e : ℕ) → e < k → get_or ts e 0 ≡ target_of ws bs e
  entry e l =
      sym (get_or-take k ts e 0 l) ∙ rw (written, over_front (target_of ws bs) ts₀ k) (table_at (target_of ws bs) 0 k e l ∙ ap (target_of ws bs) (zero-add e))

  -- that of an earlier edge of the same name
  pub known_target : (e : ℕ) → e < k → name_of ws bs (items ws + e) ≡ name_of ws bs (items ws + k) → (get_or ts e 0 ≡ target_of ws bs k) × (target_of ws bs k < items ws)
  unfolding target_of unlisted
  known_target e l same = (entry e l ∙ equal, rw (← equal) (omega (arith, target_below ws bs e, eqb-false (target_of ws bs e) (items ws) listed-there)))
    where
      equal : target_of ws bs e ≡ target_of ws bs k
      equal = ap (found ws bs (items ws)) same

      listed-there : unlisted ws bs e ≡ false
      listed-there = none_before (unlisted ws bs) (listed ws) 0 e zero-le (rw so-far (omega (arith, first_from (unlisted ws bs) (listed ws - k) k)))

  module _ (m : ℕ) (whole : m ≡ items ws) (name : List ℕ) (named-so : name ≡ name_of ws bs (items ws + k)) where
    -- that which the search finds
    pub found_target : (t : ℕ) → Some t ≡ before m (found ws bs m name) → (t ≡ target_of ws bs k) × (target_of ws bs k < items ws)
    unfolding target_of
    found_target t e =
        let f = index_found m (found ws bs m name) t e in
        let q : t ≡ target_of ws bs k = rw (whole, named-so) at f.0 in
        (q, omega (arith, f.1))

    -- where it finds none, 29
    pub no_target : k < listed ws → ◌≡◌ {A = Option ℕ} None (before m (found ws bs m name)) → first_unlisted ws bs ≡ k
    unfolding target_of unlisted
    no_target l e =
        let f : items ws ≤ target_of ws bs k = rw (whole, named-so) at (end_reached m (found ws bs m name) e) in
        so-far ∙ first_hit (unlisted ws bs) k (listed ws) l (eq-eqb (target_of ws bs k) (items ws) (omega (arith, target_below ws bs k)))

  pub next_edge : k < listed ws → target_of ws bs k < items ws → first_unlisted ws bs ≡ first (unlisted ws bs) (k + 1) (listed ws - (k + 1))
  unfolding unlisted
  next_edge l t = so-far ∙ first_miss (unlisted ws bs) k (listed ws) l (ne_eqb (target_of ws bs k) (items ws) (λ q. omega arith))

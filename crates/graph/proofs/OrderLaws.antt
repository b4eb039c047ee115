-- What placing one more item does to the counts, and the edges as the code reads them.
use Prim.Native.Nat.{ℕ, zero, suc, ◌+◌, ◌≤◌, ◌<◌}
use mathlib.Core.Path.{◌≡◌, refl, sym, ap}
use mathlib.Core.Bool.{Bool, true, false, not, ◌&&◌, ◌||◌}
use mathlib.Core.List.Memᴰ
use mathlib.Core.List.{List, [], ◌∷◌, ◌++◌}
use native.Mathlib.Omega.{arith}
use lib.ListN.{length, get_or}
use lib.Dec.{eqb}
use borrow.Author.Tests.{eq-eqb, eqb-true, lt-ltb, le-ltb, not-true, not-false}
use Rattle.terms.specs.Terms.{bit, count, member}
use Rattle.graph.specs.Order.{Edge, edges, waits, unmet, ready, next, placing, is_settled, settled, no_edge}
use Rattle.graph.specs.Chain.{Has}
use Rattle.terms.proofs.TestLaws.{and_both}
use Rattle.terms.proofs.FirstLaws.{first_passes}
use Rattle.terms.proofs.CountLaws.{count_sum, count_none, count_some, member_snoc}

-- the edges as the code reads them

pub edges_length : (os ts : List ℕ) → length os ≡ length ts → length (edges os ts) ≡ length os
unfolding edges
edges_length [] ts h = refl
edges_length (o ∷ os) [] h = sym h
edges_length (o ∷ os) (t ∷ ts) h = ap suc (edges_length os ts (omega arith))

pub edges_at : (os ts : List ℕ) (k : ℕ) → length os ≡ length ts → k < length os → get_or (edges os ts) k no_edge ≡ record { item = get_or os k 0; target = get_or ts k 0 }
unfolding edges
edges_at [] ts k h l = absurd (omega arith)
edges_at (o ∷ os) [] k h l = absurd (omega arith)
edges_at (o ∷ os) (t ∷ ts) zero h l = refl
edges_at (o ∷ os) (t ∷ ts) (suc k) h l = edges_at os ts k (omega arith) (omega arith)

-- an edge of item i whose target is x
abbrev pub hits : ℕ → ℕ → Edge → Bool
hits x i e = eqb e.item i && eqb e.target x

abbrev pub names : ℕ → Edge → Bool
names x e = eqb e.target x

-- an item with nothing unmet has all that it needs placed, and any other needs something that is not
pub unmet_none : (es : List Edge) (placed : List ℕ) (x : ℕ) → unmet es placed x ≡ 0 → (b : ℕ) → Has es x b → member b placed ≡ true
unmet_none es placed x none b h = go (count_none (waits placed x) es none (record { item = x; target = b }) h)
  where
    go : (eqb x x && not (member b placed)) ≡ false → member b placed ≡ true
    go h = not-false _ (rw (eq-eqb x x refl) at h)

pub unmet_some : (es : List Edge) (placed : List ℕ) (x : ℕ) → 1 ≤ unmet es placed x → (b : ℕ) × Has es x b × (member b placed ≡ false)
unmet_some es placed x some =
    let r = count_some (waits placed x) es some in
    let t = and_both (eqb r.0.item x) (not (member r.0.target placed)) r.2 in
    let own : r.0.item ≡ x = eqb-true r.0.item x t.0 in
    (r.0.target, Memᴰ.cast (λ i. record { item = sym own i; target = r.0.target }) r.1, not-true (member r.0.target placed) t.1)

-- placing x takes its edges off each item's count
pub unmet_snoc : (es : List Edge) (placed : List ℕ) (x i : ℕ) → member x placed ≡ false → unmet es placed i ≡ unmet es (placed ++ (x ∷ [])) i + count (hits x i) es
unmet_snoc es placed x i new = count_sum (waits placed i) (waits (placed ++ (x ∷ [])) i) (hits x i) es each
  where
    cases : (a m t : Bool) → (t ≡ true → m ≡ false) → bit (a && not m) ≡ bit (a && not (m || t)) + bit (a && t)
    cases false m t h = refl
    cases true false false h = refl
    cases true false true h = refl
    cases true true false h = refl
    cases true true true h = absurd (let z : ◌≡◌ {A = ℕ} 0 1 = cc (h refl) in omega arith)

    each : (e : Edge) → bit (waits placed i e) ≡ bit (waits (placed ++ (x ∷ [])) i e) + bit (hits x i e)
    each e =
        rw (member_snoc e.target x placed)
        (cases (eqb e.item i) (member e.target placed) (eqb e.target x) (λ q. rw (eqb-true e.target x q) new))

pub settled_snoc : (es : List Edge) (placed : List ℕ) (x : ℕ) → member x placed ≡ false → settled es (placed ++ (x ∷ [])) ≡ settled es placed + count (names x) es
settled_snoc es placed x new = count_sum (is_settled (placed ++ (x ∷ []))) (is_settled placed) (names x) es each
  where
    cases : (m t : Bool) → (t ≡ true → m ≡ false) → bit (m || t) ≡ bit m + bit t
    cases false t h = omega arith
    cases true false h = refl
    cases true true h = absurd (let z : ◌≡◌ {A = ℕ} 0 1 = cc (h refl) in omega arith)

    each : (e : Edge) → bit (is_settled (placed ++ (x ∷ [])) e) ≡ bit (is_settled placed e) + bit (names x e)
    each e =
        rw (member_snoc e.target x placed)
        (cases (member e.target placed) (eqb e.target x) (λ q. rw (eqb-true e.target x q) new))

-- one step of the clerk
module _ (es : List Edge) (n : ℕ) where
  pub placing_more : (f : ℕ) (placed : List ℕ) → next es n placed < n → placing es n (suc f) placed ≡ placing es n f (placed ++ (next es n placed ∷ []))
  unfolding placing
  placing_more f placed l = rw (lt-ltb (next es n placed) n l)

  pub placing_stop : (f : ℕ) (placed : List ℕ) → n ≤ next es n placed → placing es n f placed ≡ placed
  unfolding placing
  placing_stop zero placed l = refl
  placing_stop (suc f) placed l = rw (le-ltb (next es n placed) n l)

  -- the next item is ready, so it is not placed yet
  pub next_ready : (placed : List ℕ) → next es n placed < n → ready es placed (next es n placed) ≡ true
  next_ready placed l = first_passes (ready es placed) n 0 (omega arith)

  pub next_new : (placed : List ℕ) → next es n placed < n → member (next es n placed) placed ≡ false
  next_new placed l = not-true _ (and_both _ _ (next_ready placed l)).0

-- The clerk's order is whole exactly if no chain of dependencies leads from an item to itself. It is then a permutation of the items, with each
-- dependency before what needs it. Where it is not whole, some edge has both ends unplaced.
use Rattle.std.specs.Prelude.{if◌then◌else◌}
use Prim.Native.Nat.{ℕ, zero, suc, ◌+◌, ◌≤◌, ◌<◌}
use mathlib.Core.Path.{◌≡◌, refl}
use mathlib.Core.Bool.{Bool, true, false, not, ◌&&◌, ◌||◌}
use mathlib.Core.List.{List, [], ◌∷◌, ◌++◌}
use mathlib.Core.Logic.{◌⊎◌, inl, inr, ⊎_elim, ◌↔◌}
use native.Mathlib.Nat.{eq-or-lt_of_le}
use native.Mathlib.Omega.{arith}
use lib.ListN.{length, take, length-append, get_or-append}
use lib.Seq.{get_or-append_seam, take-append_seam, take-append-le}
use lib.Dec.{eqb, ltb}
use borrow.Author.Tests.{eqb-true, eqb-false, ltb-true, ltb-false}
use Rattle.terms.specs.Terms.{count, member}
use Rattle.graph.specs.Order.{Edge, unmet, ready, next, placing, order, no_edge, stuck_at, first_stuck}
use Rattle.graph.specs.Chain.{Has, Chain, Acyclic, Targeted, Permutation, Ordered}
use Rattle.graph.specs.Chain.Chain.{one, more}
use Rattle.terms.proofs.TestLaws.{and_both, or_either, clash}
use Rattle.terms.proofs.FirstLaws.{first_none}
use Rattle.terms.proofs.CountLaws.{member_snoc, mem_at}
use Rattle.graph.proofs.OrderLaws.{next_new, next_ready, unmet_none, unmet_some}
use Rattle.graph.proofs.Unseen.{unseen, unseen_snoc, unseen_none, unseen_some}
use Rattle.graph.proofs.Distinct.{Distinct, distinct_none, distinct_more, distinct_whole}

or_in : (a b : Bool) → a ≡ true → (a || b) ≡ true
or_in a b h = rw h

nowhere : (p : ℕ) → member p [] ≡ true → ⊥
unfolding member
nowhere p w = clash false w refl

and_on : {es : List Edge} {a b c : ℕ} → Chain es a b → Has es b c → Chain es a c
and_on (one h) g = more h (one g)
and_on (more h t) g = more h (and_on t g)

below : (a b : ℕ) → (b ≤ a → ⊥) → a < b
below a b h = go (ltb a b) refl
  where
    go : (t : Bool) → ltb a b ≡ t → a < b
    go true q = ltb-true a b q
    go false q = absurd (h (ltb-false a b q))

-- what holds of the items that are placed: all that they depend on is placed, and before them; none depends on itself; each was placed once
record Built (es : List Edge) (n : ℕ) (placed : List ℕ) : Type 0 where
  closed : (a b : ℕ) → member a placed ≡ true → Has es a b → member b placed ≡ true
  no_loop : (a : ℕ) → member a placed ≡ true → Chain es a a → ⊥
  distinct : Distinct n placed
  sorted : Ordered es placed

-- what stands before the entry at k, with one more at the end
ordered_snoc : (es : List Edge) (x : ℕ) (xs : List ℕ) → Ordered es xs → ((b : ℕ) → Has es x b → member b xs ≡ true) → Ordered es (xs ++ (x ∷ []))
ordered_snoc es x xs o met k b l h = go (eq-or-lt_of_le (omega (arith, length-append xs (x ∷ []))))
  where
    go : (k ≡ length xs) ⊎ (k < length xs) → member b (take k (xs ++ (x ∷ []))) ≡ true
    go (inl e) = rw (e, take-append_seam xs (x ∷ [])) (met b (rw (e, get_or-append_seam xs x [] 0) at h))
    go (inr m) = rw (take-append-le k xs (x ∷ []) (omega arith)) (o k b m (rw (get_or-append xs (x ∷ []) 0 k m) at h))

-- a chain from a placed item ends at a placed item
ends : (es : List Edge) (placed : List ℕ) → ((a b : ℕ) → member a placed ≡ true → Has es a b → member b placed ≡ true) → {a b : ℕ} → Chain es a b → member a placed ≡ true → member b placed ≡ true
ends es placed cl (one {a = x} {b = y} h) m = cl x y m h
ends es placed cl (more {a = x} {b = y} h t) m = ends es placed cl t (cl x y m h)

module _ (es : List Edge) (n : ℕ) where
  built_none : Built es n []
  unfolding member count
  built_none = record {
    closed = λ a b h e. absurd (clash false h refl);
    no_loop = λ a h t. absurd (clash false h refl);
    distinct = distinct_none n;
    sorted = λ k b l h. absurd (omega arith);
  }

  module _ (placed : List ℕ) (β : Built es n placed) (l : next es n placed < n) where
    -- what the next item depends on is placed
    met : (b : ℕ) → Has es (next es n placed) b → member b placed ≡ true
    met b h = unmet_none es placed (next es n placed) none b h
      where
        none : unmet es placed (next es n placed) ≡ 0
        none =
            eqb-true (unmet es placed (next es n placed)) 0
            (and_both (not (member (next es n placed) placed)) (eqb (unmet es placed (next es n placed)) 0) (next_ready es n placed l)).1

    fresh : member (next es n placed) placed ≡ true → ⊥
    fresh m = clash _ m (next_new es n placed l)

    later : (b : ℕ) → member b placed ≡ true → member b (placed ++ (next es n placed ∷ [])) ≡ true
    later b m = rw member_snoc (or_in _ _ m)

    -- the next item is on no chain to itself: the chain would end at a placed item
    round : {a b : ℕ} → Chain es a b → a ≡ next es n placed → b ≡ next es n placed → ⊥
    round (one {a = x} {b = y} h) p q = fresh (rw (← q) (met y (rw p at h)))
    round (more {a = x} {b = y} h t) p q = fresh (rw (← q) (ends es placed β.closed t (met y (rw p at h))))

    built_more : Built es n (placed ++ (next es n placed ∷ []))
    built_more = record {
      closed = λ a b m h. ⊎_elim (λ k. later b (β.closed a b k h)) (λ k. later b (met b (rw (eqb-true a (next es n placed) k) at h))) (split a m);
      no_loop = λ a m t. ⊎_elim (λ k. β.no_loop a k t) (λ k. round t (eqb-true _ _ k) (eqb-true _ _ k)) (split a m);
      distinct = distinct_more n placed β.distinct (next es n placed) l (next_new es n placed l);
      sorted = ordered_snoc es (next es n placed) placed β.sorted met;
    }
      where
        split : (a : ℕ) → member a (placed ++ (next es n placed ∷ [])) ≡ true → (member a placed ≡ true) ⊎ (eqb a (next es n placed) ≡ true)
        split a m = or_either _ _ (rw member_snoc at m)

  -- the placing ends with every item placed, or with none that can be placed next
  record Ended (placed : List ℕ) : Type 0 where
    built : Built es n placed
    whole_or_stuck : (length placed ≡ n) ⊎ (n ≤ next es n placed)

  ended : (f : ℕ) (placed : List ℕ) → Built es n placed → length placed + f ≡ n → Ended (placing es n f placed)
  unfolding placing
  ended zero placed β e = record { built = β; whole_or_stuck = inl (omega arith) }
  ended (suc f) placed β e = go (ltb (next es n placed) n) refl (ended f (placed ++ (next es n placed ∷ [])))
    where
      go : (b : Bool) → ltb (next es n placed) n ≡ b → (Built es n (placed ++ (next es n placed ∷ [])) → length (placed ++ (next es n placed ∷ [])) + f ≡ n → Ended (placing es n f (placed ++ (next es n placed ∷ [])))) → Ended (if b then placing es n f (placed ++ (next es n placed ∷ [])) else placed)
      go true q ih = ih (built_more placed β (ltb-true _ _ q)) (omega (arith, length-append placed (next es n placed ∷ [])))
      go false q ih = record { built = β; whole_or_stuck = inr (ltb-false _ _ q) }

  final : Ended (order es n)
  final = ended n [] built_none (omega arith)

  -- a whole order has no chain from an item to itself
  pub whole_acyclic : length (order es n) ≡ n → Acyclic es n
  whole_acyclic h a l t = final.built.no_loop a (unseen_none n (order es n) (omega (arith, final.built.distinct.lacks)) a l) t

  -- it has each item once and nothing else, and each dependency before what needs it
  pub whole_permutation : length (order es n) ≡ n → Permutation n (order es n)
  whole_permutation h = distinct_whole n (order es n) final.built.distinct h

  -- in any case what is placed stands after all that it needs
  pub order_ordered : Ordered es (order es n)
  order_ordered = final.built.sorted

  -- where the placing is stuck, each unplaced item has an edge to an unplaced target
  module _ (placed : List ℕ) (stuck : n ≤ next es n placed) where
    onward : (k : ℕ) → k < n → member k placed ≡ false → (b : ℕ) × Has es k b × (member b placed ≡ false)
    onward k l m = go (eqb (unmet es placed k) 0) refl (first_none (ready es placed) n k stuck l)
      where
        go : (b : Bool) → eqb (unmet es placed k) 0 ≡ b → (not (member k placed) && eqb (unmet es placed k) 0) ≡ false → (b : ℕ) × Has es k b × (member b placed ≡ false)
        go true q h = absurd (clash (not (member k placed) && eqb (unmet es placed k) 0) (let z : (not (member k placed) && eqb (unmet es placed k) 0) ≡ true = rw (m, q) in z) h)
        go false q h = unmet_some es placed k (omega (arith, eqb-false (unmet es placed k) 0 q))

    module _ (names : Targeted es n) where
      -- a walk along unplaced items, each of which has a chain to the item k where the walk stands, comes round
      walk : (f : ℕ) (path : List ℕ) (k : ℕ) → unseen n path ≤ f → k < n → member k placed ≡ false → ((p : ℕ) → member p path ≡ true → Chain es p k) → (a : ℕ) × (a < n) × Chain es a a
      walk zero path k u l m chains = (k, l, chains k (unseen_none n path (omega arith) k l))
      walk (suc f) path k u l m chains = go (member k path) refl (walk f (path ++ (k ∷ [])))
        where
          go : (b : Bool) → member k path ≡ b → ((j : ℕ) → unseen n (path ++ (k ∷ [])) ≤ f → j < n → member j placed ≡ false → ((p : ℕ) → member p (path ++ (k ∷ [])) ≡ true → Chain es p j) → (a : ℕ) × (a < n) × Chain es a a) → (a : ℕ) × (a < n) × Chain es a a
          go true q ih = (k, l, chains k q)
          go false q ih =
              let r = onward k l m in
              ih r.0 (omega (arith, unseen_snoc k path q n l)) (names k r.0 r.1) r.2
              (λ p w. ⊎_elim (λ j. and_on (chains p j) r.1) (λ j. one {a = p} {b = r.0} (rw (eqb-true p k j) r.1)) (or_either (member p path) (eqb p k) (rw member_snoc at w)))

  -- where no chain leads from an item to itself, the order is whole
  pub acyclic_whole : Targeted es n → Acyclic es n → length (order es n) ≡ n
  acyclic_whole names h = go final.whole_or_stuck
    where
      go : (length (order es n) ≡ n) ⊎ (n ≤ next es n (order es n)) → length (order es n) ≡ n
      go (inl e) = e
      go (inr s) = short (eq-or-lt_of_le (omega (arith, final.built.distinct.lacks)))
        where
          short : (length (order es n) ≡ n) ⊎ (length (order es n) < n) → length (order es n) ≡ n
          short (inl e) = e
          short (inr lt) =
              let i = unseen_some n (order es n) (omega (arith, final.built.distinct.lacks)) in
              let r = walk (order es n) s names (unseen n []) [] i.0 (omega arith) i.1 i.2 (λ p w. absurd (nowhere p w)) in
              absurd (h r.0 r.1 r.2)

  -- THE THEOREM: an order comes back exactly if no chain of dependencies leads from an item to itself
  pub whole_exactly_if_acyclic : Targeted es n → (length (order es n) ≡ n) ↔ Acyclic es n
  whole_exactly_if_acyclic names = (whole_acyclic, acyclic_whole names)

  -- a refusal names a listed edge
  pub stuck_is_listed : (length (order es n) ≡ n → ⊥) → first_stuck es (order es n) < length es
  stuck_is_listed short = go final.whole_or_stuck
    where
      go : (length (order es n) ≡ n) ⊎ (n ≤ next es n (order es n)) → first_stuck es (order es n) < length es
      go (inl e) = absurd (short e)
      go (inr s) =
          let i = unseen_some n (order es n) (omega (arith, final.built.distinct.lacks)) in
          let r = onward (order es n) s i.0 i.1 i.2 in
          let k = mem_at es no_edge (record { item = i.0; target = r.0 }) r.1 in
          let yes : stuck_at es (order es n) k.0 ≡ true = rw (k.2, i.2, r.2) in
          below (first_stuck es (order es n)) (length es) (λ le. clash _ yes (first_none (stuck_at es (order es n)) (length es) k.0 le k.1))

-- The loops of `seat` and `first_fault`: what the table of seats says of a list, and what one more edge does to the first fault.
use Rattle.std.specs.Prelude.{if◌then◌else◌, Option, Some, None, min}
use Rattle.std.specs.Option.{is_some}
use Prim.Native.Nat.{ℕ, ◌+◌, ◌≤◌, ◌<◌}
use mathlib.Core.Path.{◌≡◌, refl, sym, ap, ◌∙◌}
use mathlib.Core.Bool.{Bool, true, false, not, ◌&&◌, ◌||◌, or-true, or-false, or_assoc, and-false}
use mathlib.Core.List.{List, [], ◌∷◌, ◌++◌}
use mathlib.Core.Logic.{◌⊎◌, inl, inr}
use native.Mathlib.Nat.{eq-or-lt_of_le, add-zero}
use native.Mathlib.Numerals.{add-one}
use native.Mathlib.Omega.{arith}
use lib.ListN.{length, get_or, set, take, length-set, replicate, get_or-replicate}
use lib.Seq.{take-suc, length-take-le, get_or-set_same, get_or-set_other}
use lib.Dec.{eqb, leb, ltb}
use borrow.Author.Tests.{eq-eqb, ne_eqb, eqb-true, eqb-false, le-leb, lt-leb, leb-true, leb-false, lt-ltb, ltb-true, ltb-false, le-ltb}
use Rattle.terms.specs.Terms.{bit, count, member}
use Rattle.terms.proofs.TestLaws.{and_both, clash, fails}
use Rattle.terms.proofs.FirstLaws.{first_le, first_passes, none_before, first_is, first_cong}
use Rattle.terms.proofs.CountLaws.{count_snoc}
use Rattle.graph.specs.Order.{Edge, no_edge, waits, unmet}
use Rattle.graph.proofs.Distinct.{distinct_short}
use Rattle.planner.specs.declared.seats.Seats.{Seats}
use Rattle.planner.specs.Proposed.{unfit, too_early, at_fault, first_fault}
use Rattle.planner.specs.inner.Seats.{Seated, Filled, sooner}
use Rattle.planner.proofs.ListLaws.{in_front, at_front, fit_distinct, fit_few, before_fault}

-- an item's index as a number: 256, which is no index, where it has none
abbrev place : Option ℕ → ℕ
place None = 256
place (Some i) = i

abbrev pub place_of : List (Option ℕ) → ℕ → ℕ
place_of index i = place (get_or index i None)

-- the first k words are fit, and have their seats
pub record Seating (n : ℕ) (xs : List ℕ) (index : List (Option ℕ)) (k : ℕ) : Type 0 where
  pub inside : k ≤ length xs
  pub fit : (j : ℕ) → j < k → unfit n xs j ≡ false
  pub seated : Seated xs k index

pub seating_start : (n : ℕ) (xs : List ℕ) → Seating n xs (replicate 256 None) 0
seating_start n xs = record {
  inside = omega arith;
  fit = λ j l. absurd (omega arith);
  seated = record {
    seat = λ j l. absurd (omega arith);
    word = λ i j h e.
        let d : None ≡ Some j = sym (get_or-replicate {A = Option ℕ} 256 i None None h) ∙ e in
        absurd (cc);
    size = refl;
  };
}

module _ (n : ℕ) (xs : List ℕ) (index : List (Option ℕ)) (k : ℕ) (few : n ≤ 256) (σ : Seating n xs index k) where
  seats_few : k ≤ n
  seats_few = fit_few n xs k σ.inside σ.fit

  -- the seats as numbers
  seat_no : (j : ℕ) → j < k → place_of index (get_or xs j 0) ≡ j
  seat_no j l = rw (σ.seated.seat j l)

  word_no : (i : ℕ) → i < 256 → place_of index i < 256 → (place_of index i < k) × (get_or xs (place_of index i) 0 ≡ i)
  word_no i h l = go (get_or index i None) refl l
    where
      go : (o : Option ℕ) → get_or index i None ≡ o → place o < 256 → (place o < k) × (get_or xs (place o) 0 ≡ i)
      go None e m = absurd (omega arith)
      go (Some j) e m = σ.seated.word i j h e

  seat_small : (i j : ℕ) → i < 256 → get_or index i None ≡ Some j → j < 256
  seat_small i j h e = omega (arith, (σ.seated.word i j h e).0, seats_few)

  -- an item is in the first k exactly if it has a seat
  has_seat : (x j : ℕ) → x < 256 → get_or index x None ≡ Some j → member x (take k xs) ≡ true
  has_seat x j h e = let w = σ.seated.word x j h e in in_front xs k j x σ.inside w.0 w.1

  no_seat : (x : ℕ) → get_or index x None ≡ None → member x (take k xs) ≡ false
  no_seat x e = fails (member x (take k xs)) (λ m. by (at_front xs k x σ.inside m))
    where
      by : (j : ℕ) × (j < k) × (get_or xs j 0 ≡ x) → ⊥
      by r =
          let d : None ≡ Some r.0 = sym e ∙ rw (← r.2) (σ.seated.seat r.0 r.1) in
          absurd (cc)

  -- the word at k has a seat already, or is no item
  pub unfit_seat : get_or xs k 0 < n → is_some (get_or index (get_or xs k 0) None) ≡ true → unfit n xs k ≡ true
  unfolding unfit
  unfit_seat l s = go (get_or index (get_or xs k 0) None) refl s
    where
      go : (o : Option ℕ) → get_or index (get_or xs k 0) None ≡ o → is_some o ≡ true → (leb n (get_or xs k 0) || member (get_or xs k 0) (take k xs)) ≡ true
      go None e t = absurd (clash false t refl)
      go (Some j) e t = rw (has_seat (get_or xs k 0) j (omega arith) e, or-true (leb n (get_or xs k 0)))

  pub unfit_item : n ≤ get_or xs k 0 → unfit n xs k ≡ true
  unfolding unfit
  unfit_item l = rw (le-leb n (get_or xs k 0) l)

  -- the word at k gets its seat
  module _ (here : k < length xs) (item : get_or xs k 0 < n) (free : is_some (get_or index (get_or xs k 0) None) ≡ false) where
    unseated : get_or index (get_or xs k 0) None ≡ None
    unseated = go (get_or index (get_or xs k 0) None) free
      where
        go : (o : Option ℕ) → is_some o ≡ false → o ≡ None
        go None t = refl
        go (Some j) t = absurd (clash true refl t)

    pub seat_room : k < 256
    seat_room =
        omega (arith, distinct_short n (take k xs) (fit_distinct n xs k σ.inside σ.fit) (get_or xs k 0) item (no_seat (get_or xs k 0) unseated), length-take-le k xs σ.inside)

    fit_here : unfit n xs k ≡ false
    unfolding unfit
    fit_here = rw (lt-leb n (get_or xs k 0) item, no_seat (get_or xs k 0) unseated)

    pub seating_more : Seating n xs (set index (get_or xs k 0) (Some k)) (k + 1)
    seating_more = record {
      inside = omega arith;
      fit = λ j l. fit_by j (eq-or-lt_of_le (omega arith));
      seated = record {
        seat = λ j l. seat_by j (eq-or-lt_of_le (omega arith));
        word = λ i j h e. word_by i j h (eqb i (get_or xs k 0)) refl e;
        size = length-set index (get_or xs k 0) (Some k) ∙ σ.seated.size;
      };
    }
      where
        in_table : get_or xs k 0 < length index
        in_table = omega (arith, σ.seated.size)

        fit_by : (j : ℕ) → (j ≡ k) ⊎ (j < k) → unfit n xs j ≡ false
        fit_by j (inl e) = rw e fit_here
        fit_by j (inr l) = σ.fit j l

        seat_by : (j : ℕ) → (j ≡ k) ⊎ (j < k) → get_or (set index (get_or xs k 0) (Some k)) (get_or xs j 0) None ≡ Some j
        seat_by j (inl e) = rw e (get_or-set_same index (get_or xs k 0) (Some k) None in_table)
        seat_by j (inr l) = get_or-set_other index (get_or xs k 0) (get_or xs j 0) (Some k) None other ∙ σ.seated.seat j l
          where
            other : get_or xs j 0 ≡ get_or xs k 0 → ⊥
            other e =
                let d : None ≡ Some j = sym unseated ∙ (rw e at (σ.seated.seat j l)) in
                absurd (cc)

        word_by : (i j : ℕ) → i < 256 → (b : Bool) → eqb i (get_or xs k 0) ≡ b → get_or (set index (get_or xs k 0) (Some k)) i None ≡ Some j
            → (j < k + 1) × (get_or xs j 0 ≡ i)
        word_by i j h true q e =
            let same : i ≡ get_or xs k 0 = eqb-true i (get_or xs k 0) q in
            let d : Some k ≡ Some j = sym (get_or-set_same index (get_or xs k 0) (Some k) None in_table) ∙ (rw same at e) in
            let f : k ≡ j = cc in
            (omega arith, rw (← f) (sym same))
        word_by i j h false q e =
            let w = σ.seated.word i j h (sym (get_or-set_other index (get_or xs k 0) i (Some k) None (eqb-false i (get_or xs k 0) q)) ∙ e) in
            (omega (arith, w.0), w.1)

-- where the words end that are fit, so does `seat`
pub seating_stop : (n : ℕ) (xs : List ℕ) (index : List (Option ℕ)) (k : ℕ) → Seating n xs index k → (k < length xs → unfit n xs k ≡ true)
    → Filled n xs (record { index = index; end = k })
seating_stop n xs index k σ stop = record {
  stops = sym (first_is (unfit n xs) (length xs) k σ.inside σ.fit stop);
  seated = σ.seated;
}

pub seating_end : (n : ℕ) (xs : List ℕ) (index : List (Option ℕ)) (k : ℕ) → Seating n xs index k → length xs ≤ k
    → Filled n xs (record { index = index; end = length xs })
seating_end n xs index k σ l =
    let e : k ≡ length xs = omega (arith, σ.inside) in
    rw (← e) (seating_stop n xs index k σ (λ m. absurd (omega arith)))

pub filled_seating : (n : ℕ) (xs : List ℕ) (s : Seats) → Filled n xs s → Seating n xs s.index s.end
filled_seating n xs s f = record {
  inside = omega (arith, f.stops, first_le (unfit n xs) (length xs) 0);
  fit = λ j l. none_before (unfit n xs) (length xs) 0 j (omega arith) (rw f.stops at l);
  seated = f.seated;
}

least : (i fault : ℕ) → min fault i ≡ (if ltb i fault then i else fault)
least i fault = go (ltb i fault) refl
  where
    go : (b : Bool) → ltb i fault ≡ b → min fault i ≡ (if b then i else fault)
    go true q = omega (arith, ltb-true i fault q)
    go false q = omega (arith, ltb-false i fault q)

module _ (n : ℕ) (xs : List ℕ) (s : Seats) (few : n ≤ 256) (f : Filled n xs s) where
  σ : Seating n xs s.index s.end
  σ = filled_seating n xs s f

  -- without edges the first fault is where the seats end
  pub fault_start : s.end ≡ first_fault [] n xs
  unfolding at_fault too_early count
  fault_start = f.stops ∙ first_cong (unfit n xs) (at_fault [] n xs) (length xs) 0 (λ k a b. sym (or-false (unfit n xs k)))

  -- and with edges never later
  fault_by_end : (ds : List Edge) → first_fault ds n xs ≤ s.end
  fault_by_end ds = go (leb (first_fault ds n xs) s.end) refl
    where
      go : (b : Bool) → leb (first_fault ds n xs) s.end ≡ b → first_fault ds n xs ≤ s.end
      go true q = leb-true (first_fault ds n xs) s.end q
      go false q =
          let late = leb-false (first_fault ds n xs) s.end q in
          absurd (clash (unfit n xs s.end)
          (rw f.stops (first_passes (unfit n xs) (length xs) 0 (omega (arith, late, f.stops, first_le (at_fault ds n xs) (length xs) 0))))
          (before_fault ds n xs s.end late).0)

  module _ (o t : ℕ) (ol : o < 256) (tl : t < 256) where
    -- an item of the list waits for a target exactly if its own seat is that index, and the target's is not before it
    seats_early : (k : ℕ) → k < s.end → waits (take k xs) (get_or xs k 0) (record { item = o; target = t }) ≡ (eqb (place_of s.index o) k && leb (place_of s.index o) (place_of s.index t))
    seats_early k l = by (eqb o (get_or xs k 0)) refl
      where
        le : k ≤ length xs
        le = omega (arith, σ.inside)

        target : (b : Bool) → leb k (place_of s.index t) ≡ b → not (member t (take k xs)) ≡ b
        target true q = ap not (fails (member t (take k xs)) (λ m. here (at_front xs k t le m)))
          where
            here : (j : ℕ) × (j < k) × (get_or xs j 0 ≡ t) → ⊥
            here r =
                let at : place_of s.index t ≡ r.0 = rw (← r.2) (seat_no n xs s.index s.end few σ r.0 (omega (arith, r.1))) in
                omega (arith, at, r.1, leb-true k (place_of s.index t) q)
        target false q =
            let before = leb-false k (place_of s.index t) q in
            ap not (in_front xs k (place_of s.index t) t le before (word_no n xs s.index s.end few σ t tl (omega (arith, before, seats_few n xs s.index s.end few σ))).1)

        by : (b : Bool) → eqb o (get_or xs k 0) ≡ b → (b && not (member t (take k xs))) ≡ (eqb (place_of s.index o) k && leb (place_of s.index o) (place_of s.index t))
        by true q =
            let at : place_of s.index o ≡ k = rw (eqb-true o (get_or xs k 0) q) (seat_no n xs s.index s.end few σ k l) in
            rw (at, eq-eqb k k refl) (target (leb k (place_of s.index t)) refl)
        by false q = rw (ne_eqb (place_of s.index o) k apart)
          where
            apart : place_of s.index o ≡ k → ⊥
            apart e =
                eqb-false o (get_or xs k 0) q
                (sym (rw e at (word_no n xs s.index s.end few σ o ol (omega (arith, e, seats_few n xs s.index s.end few σ))).1))

    module _ (ds : List Edge) where
      abbrev e : Edge
      e = record { item = o; target = t }

      early_more : (k : ℕ) → at_fault (ds ++ (e ∷ [])) n xs k ≡ (at_fault ds n xs k || waits (take k xs) (get_or xs k 0) e)
      unfolding at_fault too_early
      early_more k =
          rw (count_snoc (waits (take k xs) (get_or xs k 0)) e ds, or_assoc (unfit n xs k) (too_early ds xs k) (waits (take k xs) (get_or xs k 0) e))
          (ap (λ (b : Bool). unfit n xs k || b) (go (waits (take k xs) (get_or xs k 0) e)))
        where
          go : (w : Bool) → not (eqb (unmet ds (take k xs) (get_or xs k 0) + bit w) 0) ≡ (not (eqb (unmet ds (take k xs) (get_or xs k 0)) 0) || w)
          go true = rw (ne_eqb (unmet ds (take k xs) (get_or xs k 0) + 1) 0 (λ z. omega arith), or-true (not (eqb (unmet ds (take k xs) (get_or xs k 0)) 0)))
          go false = rw (add-zero (unmet ds (take k xs) (get_or xs k 0)), or-false (not (eqb (unmet ds (take k xs) (get_or xs k 0)) 0)))

      abbrev a : ℕ
      a = place_of s.index o

      abbrev b : ℕ
      b = place_of s.index t

      abbrev fault : ℕ
      fault = first_fault ds n xs

      clean : (k : ℕ) → k < fault → (eqb a k && leb a b) ≡ false → at_fault (ds ++ (e ∷ [])) n xs k ≡ false
      clean k l apart =
          rw (early_more k, none_before (at_fault ds n xs) (length xs) 0 k (omega arith) l, seats_early k (omega (arith, fault_by_end ds))) apart

      -- one more edge: the first fault is its item's seat where that is sooner and the target's is not before it
      pub fault_more : first_fault (ds ++ (e ∷ [])) n xs ≡ (if leb a b && ltb a fault then a else fault)
      fault_more = go (leb a b && ltb a fault) refl
        where
          in_list : fault ≤ length xs
          in_list = omega (arith, first_le (at_fault ds n xs) (length xs) 0)

          go : (c : Bool) → (leb a b && ltb a fault) ≡ c → first_fault (ds ++ (e ∷ [])) n xs ≡ (if c then a else fault)
          go true q =
              let p = and_both (leb a b) (ltb a fault) q in
              let l = ltb-true a fault p.1 in
              first_is (at_fault (ds ++ (e ∷ [])) n xs) (length xs) a (omega (arith, l, in_list))
              (λ k m. clean k (omega (arith, l)) (rw (ne_eqb a k (λ z. omega arith))))
              (λ m. rw (early_more a, seats_early a (omega (arith, l, fault_by_end ds)), eq-eqb a a refl, p.0, or-true (at_fault ds n xs a)))
          go false q =
              first_is (at_fault (ds ++ (e ∷ [])) n xs) (length xs) fault in_list
              (λ k m. clean k m (not_here k m (eqb a k) refl))
              (λ m. rw (early_more fault, first_passes (at_fault ds n xs) (length xs) 0 (omega arith)))
            where
              not_here : (k : ℕ) → k < fault → (c : Bool) → eqb a k ≡ c → (c && leb a b) ≡ false
              not_here k m false z = refl
              not_here k m true z = fails (leb a b) (λ y. clash (leb a b && ltb a fault) (rw (y, lt-ltb a fault (omega (arith, eqb-true a k z)))) q)

  -- what the code compares is the seats as numbers
  sooner_is : (a b : Option ℕ) (fault : ℕ) → ((i : ℕ) → a ≡ Some i → i < 256) → fault ≤ 256
      → sooner a b fault ≡ (if leb (place a) (place b) && ltb (place a) fault then place a else fault)
  unfolding sooner
  sooner_is None b fault small few = rw (le-ltb 256 fault few, and-false (leb 256 (place b)))
  sooner_is (Some i) None fault small few = rw (le-leb i 256 (omega (arith, small i refl))) (least i fault)
  sooner_is (Some i) (Some t) fault small few = go (ltb t i) refl
    where
      go : (b : Bool) → ltb t i ≡ b → (if b then fault else min fault i) ≡ (if leb i t && ltb i fault then i else fault)
      go true q = rw (lt-leb i t (ltb-true t i q))
      go false q = rw (le-leb i t (ltb-false t i q)) (least i fault)

  -- the loop of `first_fault`: the edges before k are looked at, and then that at k
  pub fault_next : (es : List Edge) (k o t : ℕ) → k < length es → get_or es k no_edge ≡ record { item = o; target = t } → o < 256 → t < 256
      → (fault r : ℕ) → fault ≡ first_fault (take k es) n xs
      → r ≡ sooner (get_or s.index o None) (get_or s.index t None) fault
      → r ≡ first_fault (take (k + 1) es) n xs
  fault_next es k o t l at ol tl fault r p q =
      let by_n = seats_few n xs s.index s.end few σ in
      q ∙ sooner_is (get_or s.index o None) (get_or s.index t None) fault (λ i e. seat_small n xs s.index s.end few σ o i ol e) (omega (arith, by_n, fault_by_end (take k es)))
      ∙ rw (p, add-one k, take-suc es k no_edge, at) (sym (fault_more o t ol tl (take k es)))

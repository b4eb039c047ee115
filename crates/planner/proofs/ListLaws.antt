-- A list is accepted exactly if it is a load order; no first fault lies past index n; and what has a load order has no chain from an item to itself.
use Rattle.std.specs.Prelude.{if◌then◌else◌, Err}
use Prim.Native.Nat.{ℕ, zero, suc, ◌≤◌, ◌<◌}
use mathlib.Core.Path.{◌≡◌, refl, sym, ◌∙◌}
use mathlib.Core.Bool.{Bool, true, false, not, ◌&&◌, and-false}
use mathlib.Core.List.{List}
use mathlib.Core.Logic.{◌⊎◌, inl, inr}
use native.Mathlib.Omega.{arith}
use lib.ListN.{length, get_or, take}
use lib.Seq.{take-suc, length-take-le, take_all, get_or-take}
use lib.Dec.{eqb, leb, ltb}
use borrow.Author.Tests.{eq-eqb, ne_eqb, eqb-true, eqb-false, lt-leb, leb-false, ltb-true, lt-ltb, not-false}
use Rattle.terms.specs.Terms.{bit, count, member}
use Rattle.terms.proofs.TestLaws.{and_both, or_neither, clash, fails}
use Rattle.terms.proofs.FirstLaws.{first_le, none_before, first_is}
use Rattle.terms.proofs.CountLaws.{bit_le, count_at, count_parts, member_at, at_member, member_counted}
use Rattle.answers.specs.Caps.{accepted}
use Rattle.answers.specs.declared.Refusal.TheVariants.{NotAnOrder}
use Rattle.answers.proofs.CapsLaws.{accepted_if}
use Rattle.graph.specs.Order.{Edge, unmet}
use Rattle.graph.specs.Chain.{Chain, Acyclic}
use Rattle.graph.specs.Chain.Chain.{one, more}
use Rattle.graph.proofs.OrderLaws.{unmet_none, unmet_some}
use Rattle.graph.proofs.Unseen.{unseen, unseen_none, unseen_some}
use Rattle.graph.proofs.Distinct.{Distinct, distinct_none, distinct_more, distinct_whole}
use Rattle.planner.specs.Proposed.{LoadOrder, unfit, too_early, at_fault, first_fault, list_verdict}

-- what stands at an index before k stands in the first k
pub in_front : (xs : List ℕ) (k j x : ℕ) → k ≤ length xs → j < k → get_or xs j 0 ≡ x → member x (take k xs) ≡ true
in_front xs k j x le l e = rw (← e, ← get_or-take k xs j 0 l) (at_member (take k xs) j (omega (arith, length-take-le k xs le)))

pub at_front : (xs : List ℕ) (k x : ℕ) → k ≤ length xs → member x (take k xs) ≡ true → (j : ℕ) × (j < k) × (get_or xs j 0 ≡ x)
at_front xs k x le m =
    let r = member_at x (take k xs) m in
    let l : r.0 < k = omega (arith, r.1, length-take-le k xs le) in
    (r.0, l, sym (get_or-take k xs r.0 0 l) ∙ r.2)

-- words that are fit are items, each new in the list
module _ (n : ℕ) (xs : List ℕ) where
  pub fit_item : (k : ℕ) → unfit n xs k ≡ false → get_or xs k 0 < n
  unfolding unfit
  fit_item k e = leb-false n (get_or xs k 0) (or_neither (leb n (get_or xs k 0)) (member (get_or xs k 0) (take k xs)) e).0

  pub fit_new : (k : ℕ) → unfit n xs k ≡ false → member (get_or xs k 0) (take k xs) ≡ false
  unfolding unfit
  fit_new k e = (or_neither (leb n (get_or xs k 0)) (member (get_or xs k 0) (take k xs)) e).1

  pub fit_distinct : (k : ℕ) → k ≤ length xs → ((j : ℕ) → j < k → unfit n xs j ≡ false) → Distinct n (take k xs)
  fit_distinct zero l fit = distinct_none n
  fit_distinct (suc k) l fit =
      rw (take-suc xs k 0)
      (distinct_more n (take k xs) (fit_distinct k (omega arith) (λ j m. fit j (omega arith))) (get_or xs k 0) (fit_item k (fit k (omega arith))) (fit_new k (fit k (omega arith))))

  -- so there are at most n of them
  pub fit_few : (k : ℕ) → k ≤ length xs → ((j : ℕ) → j < k → unfit n xs j ≡ false) → k ≤ n
  fit_few k l fit = omega (arith, (fit_distinct k l fit).lacks, length-take-le k xs l)

module _ (es : List Edge) (n : ℕ) (xs : List ℕ) where
  pub before_fault : (k : ℕ) → k < first_fault es n xs → (unfit n xs k ≡ false) × (too_early es xs k ≡ false)
  unfolding at_fault
  before_fault k l = or_neither (unfit n xs k) (too_early es xs k) (none_before (at_fault es n xs) (length xs) 0 k (omega arith) l)

  -- a list that is too long is at fault at index n, if not before
  pub fault_by_n : first_fault es n xs ≤ n
  fault_by_n = fit_few n xs (first_fault es n xs) (omega (arith, first_le (at_fault es n xs) (length xs) 0)) (λ j l. (before_fault j l).0)

  -- the test that accepts
  abbrev whole : Bool
  whole = eqb (length xs) n && eqb (first_fault es n xs) n

  -- the two returns of `check_list`
  module _ (fault : ℕ) (q : fault ≡ first_fault es n xs) where
    pub accepts : length xs ≡ n → fault ≡ n → accepted ≡ list_verdict es n xs
    unfolding list_verdict
    accepts l f = rw (eq-eqb (length xs) n l, eq-eqb (first_fault es n xs) n (sym q ∙ f))

    pub refuses : (length xs ≡ n → ⊥) ⊎ (fault ≡ n → ⊥) → Err (NotAnOrder fault) ≡ list_verdict es n xs
    unfolding list_verdict
    refuses (inl l) = rw (q, ne_eqb (length xs) n l)
    refuses (inr f) = rw (q, ne_eqb (first_fault es n xs) n (λ e. f (q ∙ e)), and-false (eqb (length xs) n))

  -- a list that is not accepted is refused there
  pub refused_at : (list_verdict es n xs ≡ accepted → ⊥) → list_verdict es n xs ≡ Err (NotAnOrder (first_fault es n xs))
  unfolding list_verdict
  refused_at not = go whole not
    where
      go : (b : Bool) → ((if b then accepted else Err (NotAnOrder (first_fault es n xs))) ≡ accepted → ⊥)
          → (if b then accepted else Err (NotAnOrder (first_fault es n xs))) ≡ Err (NotAnOrder (first_fault es n xs))
      go true h = absurd (h refl)
      go false h = refl

  pub accepted_order : list_verdict es n xs ≡ accepted → LoadOrder es n xs
  unfolding list_verdict too_early
  accepted_order e = record {
    permutation = distinct_whole n xs (rw (take_all (length xs) xs (omega arith)) at (fit_distinct n xs (length xs) (omega arith) (λ j l. (before_fault j (omega (arith, long, clean))).0))) long;
    ordered = λ k b l h. unmet_none es (take k xs) (get_or xs k 0) (met k l) b h;
  }
    where
      both : (eqb (length xs) n ≡ true) × (eqb (first_fault es n xs) n ≡ true)
      both = and_both (eqb (length xs) n) (eqb (first_fault es n xs) n) (accepted_if whole (NotAnOrder (first_fault es n xs)) e)

      long : length xs ≡ n
      long = eqb-true (length xs) n both.0

      clean : first_fault es n xs ≡ n
      clean = eqb-true (first_fault es n xs) n both.1

      met : (k : ℕ) → k < length xs → unmet es (take k xs) (get_or xs k 0) ≡ 0
      met k l = eqb-true (unmet es (take k xs) (get_or xs k 0)) 0 (not-false _ (before_fault k (omega (arith, long, clean))).1)

  module _ (o : LoadOrder es n xs) where
    -- each word is an item
    in_items : (k : ℕ) → k < length xs → get_or xs k 0 < n
    in_items k l = go (ltb (get_or xs k 0) n) refl (o.permutation (get_or xs k 0))
      where
        go : (b : Bool) → ltb (get_or xs k 0) n ≡ b → count (eqb (get_or xs k 0)) xs ≡ bit b → get_or xs k 0 < n
        go true q e = ltb-true (get_or xs k 0) n q
        go false q e = absurd (omega (arith, member_counted (get_or xs k 0) xs (at_member xs k l)))

    -- and none repeats one: it would be counted twice
    new : (k : ℕ) → k < length xs → member (get_or xs k 0) (take k xs) ≡ false
    new k l = fails (member (get_or xs k 0) (take k xs)) (λ m. twice m)
      where
        here : bit (eqb (get_or xs k 0) (get_or xs k 0)) ≡ 1
        here = rw (eq-eqb (get_or xs k 0) (get_or xs k 0) refl)

        twice : member (get_or xs k 0) (take k xs) ≡ true → ⊥
        twice m =
            omega (
              arith,
              member_counted (get_or xs k 0) (take k xs) m,
              count_parts (eqb (get_or xs k 0)) xs k,
              count_at (eqb (get_or xs k 0)) xs k 0 l,
              here,
              o.permutation (get_or xs k 0),
              bit_le (ltb (get_or xs k 0) n),
            )

    met_all : (k : ℕ) → k < length xs → unmet es (take k xs) (get_or xs k 0) ≡ 0
    met_all k l = go (eqb (unmet es (take k xs) (get_or xs k 0)) 0) refl
      where
        go : (b : Bool) → eqb (unmet es (take k xs) (get_or xs k 0)) 0 ≡ b → unmet es (take k xs) (get_or xs k 0) ≡ 0
        go true q = eqb-true (unmet es (take k xs) (get_or xs k 0)) 0 q
        go false q =
            let r = unmet_some es (take k xs) (get_or xs k 0) (omega (arith, eqb-false (unmet es (take k xs) (get_or xs k 0)) 0 q)) in
            absurd (clash (member r.0 (take k xs)) (o.ordered k r.0 l r.1) r.2)

    fit : (k : ℕ) → k < length xs → unfit n xs k ≡ false
    unfolding unfit
    fit k l = rw (lt-leb n (get_or xs k 0) (in_items k l), new k l)

    distinct : Distinct n xs
    distinct = rw (take_all (length xs) xs (omega arith)) at (fit_distinct n xs (length xs) (omega arith) fit)

    long_enough : length xs ≡ n
    long_enough = go (unseen n xs) refl
      where
        go : (m : ℕ) → unseen n xs ≡ m → length xs ≡ n
        go zero e = omega (arith, distinct.lacks)
        go (suc m) e =
            let i = unseen_some n xs (omega arith) in
            let lacking : count (eqb i.0) xs ≡ 0 = distinct.each i.0 ∙ rw i.2 in
            let wanted : count (eqb i.0) xs ≡ 1 = o.permutation i.0 ∙ rw (lt-ltb i.0 n i.1) in
            absurd (omega (arith, lacking, wanted))

    pub order_accepted : list_verdict es n xs ≡ accepted
    unfolding list_verdict at_fault too_early
    order_accepted = rw (eq-eqb (length xs) n long_enough, eq-eqb (first_fault es n xs) n (clean ∙ long_enough))
      where
        clean : first_fault es n xs ≡ length xs
        clean = first_is (at_fault es n xs) (length xs) (length xs) (omega arith) (λ k l. rw (fit k l, met_all k l)) (λ l. absurd (omega arith))

    -- a chain leads from an item of a load order to one that stands before it
    earlier : {a b : ℕ} → Chain es a b → (k : ℕ) → k < length xs → get_or xs k 0 ≡ a → (j : ℕ) × (j < k) × (get_or xs j 0 ≡ b)
    earlier (one {a = x} {b = y} h) k l e = at_front xs k y (omega arith) (o.ordered k y l (rw (← e) at h))
    earlier (more {a = x} {b = y} h t) k l e =
        let r = at_front xs k y (omega arith) (o.ordered k y l (rw (← e) at h)) in
        let q = earlier t r.0 (omega (arith, r.1)) r.2 in
        (q.0, omega (arith, q.1, r.1), q.2)

    -- so no chain leads from an item to itself: it would stand twice
    pub order_acyclic : Acyclic es n
    order_acyclic a l t =
        let k = member_at a xs (unseen_none n xs (omega (arith, distinct.lacks, long_enough)) a l) in
        let r = earlier t k.0 k.1 k.2 in
        clash (member (get_or xs k.0 0) (take k.0 xs)) (in_front xs k.0 r.0 (get_or xs k.0 0) (omega (arith, k.1)) r.1 (r.2 ∙ sym k.2)) (new k.0 k.1)

-- A list of items in which each stands once: it grows by items that it lacks, and is whole when it has as many as there are.
use Prim.Native.Nat.{ℕ, ◌+◌, ◌<◌}
use mathlib.Core.Path.{◌≡◌, refl, ap, ◌∙◌}
use mathlib.Core.Bool.{Bool, true, false, ◌||◌, or-false}
use mathlib.Core.List.{List, [], ◌∷◌, ◌++◌}
use mathlib.Core.Logic.{◌⊎◌, inl, inr}
use native.Mathlib.Omega.{arith}
use lib.ListN.{length, length-append}
use lib.Dec.{eqb, ltb}
use borrow.Author.Tests.{eqb-true, ltb-true, ltb-false}
use Rattle.terms.specs.Terms.{bit, count, member}
use Rattle.terms.proofs.TestLaws.{or_either, clash, fails}
use Rattle.terms.proofs.CountLaws.{count_snoc, member_snoc}
use Rattle.graph.specs.Chain.{Permutation}
use Rattle.graph.proofs.Unseen.{unseen, unseen_nil, unseen_snoc, unseen_none}

pub record Distinct (n : ℕ) (xs : List ℕ) : Type 0 where
  pub each : (i : ℕ) → count (eqb i) xs ≡ bit (member i xs)
  pub items : (i : ℕ) → member i xs ≡ true → i < n
  pub lacks : unseen n xs + length xs ≡ n

-- with one more at the end each number still stands once
each_snoc : (i x : ℕ) (xs : List ℕ) → member x xs ≡ false → count (eqb i) xs ≡ bit (member i xs) → count (eqb i) (xs ++ (x ∷ [])) ≡ bit (member i (xs ++ (x ∷ [])))
each_snoc i x xs new h = rw (count_snoc (eqb i) x xs, member_snoc i x xs) (go (eqb i x) refl)
  where
    go : (b : Bool) → eqb i x ≡ b → count (eqb i) xs + bit b ≡ bit (member i xs || b)
    go true q =
        let m : member i xs ≡ false = rw (eqb-true i x q) new in
        let z : count (eqb i) xs ≡ 0 = rw m at h in
        rw (z, m)
    go false q = rw (or-false (member i xs)) (omega arith)

pub distinct_none : (n : ℕ) → Distinct n []
unfolding member count
distinct_none n = record {
  each = λ i. refl;
  items = λ i h. absurd (clash false h refl);
  lacks = omega (arith, unseen_nil n);
}

module _ (n : ℕ) (xs : List ℕ) (d : Distinct n xs) where
  pub distinct_more : (x : ℕ) → x < n → member x xs ≡ false → Distinct n (xs ++ (x ∷ []))
  distinct_more x l new = record {
    each = λ i. each_snoc i x xs new (d.each i);
    items = λ i m. go i (or_either (member i xs) (eqb i x) (rw member_snoc at m));
    lacks = omega (arith, d.lacks, unseen_snoc x xs new n l, length-append xs (x ∷ []));
  }
    where
      go : (i : ℕ) → (member i xs ≡ true) ⊎ (eqb i x ≡ true) → i < n
      go i (inl m) = d.items i m
      go i (inr e) = rw (eqb-true i x e) l

  -- while it lacks an item it has fewer than there are
  pub distinct_short : (x : ℕ) → x < n → member x xs ≡ false → length xs < n
  distinct_short x l new = omega (arith, d.lacks, unseen_snoc x xs new n l)

  -- with as many as there are it has each once and nothing else
  pub distinct_whole : length xs ≡ n → Permutation n xs
  distinct_whole h i = d.each i ∙ go (ltb i n) refl
    where
      go : (b : Bool) → ltb i n ≡ b → bit (member i xs) ≡ bit b
      go true q = ap bit (unseen_none n xs (omega (arith, d.lacks)) i (ltb-true i n q))
      go false q = ap bit (fails (member i xs) (λ m. absurd (omega (arith, d.items i m, ltb-false i n q))))

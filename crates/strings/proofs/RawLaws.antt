-- Raw characters: a run of them equals as many plain turns (`Raw` of `specs/inner/Walking.antt`).
use Prim.Native.Nat.{ℕ, zero, suc, ◌≤◌, ◌<◌, ◌+◌, ◌-◌, min}
use mathlib.Core.Path.{◌≡◌, refl, sym, subst, ◌∙◌}
use mathlib.Core.Bool.{Bool, true, not, ◌&&◌, ◌||◌}
use mathlib.Core.List.{List, [], ◌++◌}
use native.Mathlib.Omega.{arith}
use native.Mathlib.Nat.{add-zero, add_assoc}
use lib.Dec.{eqb}
use lib.ListN.{length, get_or, take, drop, length-take}
use lib.Seq.{take-add, drop-drop}
use borrow.Author.Tests.{le-ltb, ne_eqb, eqb-false, not-true, not-false}
use Rattle.terms.specs.Terms.{within, first}
use Rattle.terms.proofs.TestLaws.{and_both, or_neither, within_true}
use Rattle.terms.proofs.TableLaws.{split}
use Rattle.terms.proofs.BelowLaws.{all_below}
use Rattle.chars.specs.inner.Runs.{in_set, stops_at, run_end}
use Rattle.chars.proofs.RunLaws.{each_of_set}
use Rattle.terms.proofs.FirstLaws.{none_before, first_le, first_from}
use Rattle.answers.specs.declared.Place.{Place}
use Rattle.answers.specs.Places.{place}
use Rattle.answers.specs.Caps.{cap}
use Rattle.chars.specs.Utf8.{byte_at, on_by, char_at}
use Rattle.chars.specs.View.{folded_at}
use Rattle.std.specs.Prelude.{Some, Ok}
use Rattle.chars.proofs.Utf8Laws.{onward, scalar, four_at_most, ascii_at_lem}
use Rattle.chars.proofs.ViewLaws.{as_folded}
use Rattle.chars.proofs.RoundTrip.{encode_read, ascii_byte}
use Rattle.strings.specs.declared.Inside.TheVariants.{Plain}
use Rattle.strings.specs.declared.More.TheVariants.{Whole}
use Rattle.strings.specs.declared.Turn.TheVariants.{On}
use Rattle.strings.specs.declared.Seen.{Seen}
use Rattle.strings.specs.Strings.{plain_turn, turn_of, added}
use Rattle.strings.specs.inner.Checking.{feeds, pass, Fair}
use Rattle.strings.specs.inner.Walking.{Comes, bare, Raw}
use Rattle.strings.proofs.CheckingLaws.{feeds_none, feeds_append, passes, pass_twice, pass_fair}
use Rattle.strings.proofs.TurnLaws.{went, comes_none, comes_on}

-- a character that a string holds as it stands
pub record Bare (c : ℕ) : Type 0 where
  pub high : 0x20 ≤ c
  pub quote : c ≡ 0x22 → ⊥
  pub slash : c ≡ 0x5C → ⊥
  pub del : c ≡ 0x7F → ⊥

plain_raw : (p : Place) (c : ℕ) → Bare c → turn_of Plain p c ≡ Ok (On Plain (Some (Whole c)))
unfolding turn_of plain_turn
plain_raw p c b = rw (ne_eqb _ _ b.quote, ne_eqb _ _ b.slash, le-ltb _ _ b.high, ne_eqb _ _ b.del)

module _ (s : List ℕ) where
  -- none
  pub raw_none : (p : Place) → Raw s p 0
  raw_none p = record {
    comes = λ o. subst (λ (n : ℕ). Comes s o Plain p Plain [] (place n)) (sym (add-zero p.0)) (comes_none s o Plain p);
    passes = λ n t k f l. absurd (omega arith);
    inside = λ l. absurd (omega arith);
    near = λ l. absurd (omega arith);
  }

  -- one
  pub raw_one : (p : Place) (c : ℕ) (n : Place) → char_at s p ≡ Ok (Some (c, n)) → Bare c → Raw s p (n.0 - p.0)
  unfolding added
  raw_one p c n e b =
      let w = onward s p c n e in
      let q : p.0 + (n.0 - p.0) ≡ n.0 = omega arith in
      let f = four_at_most s p c n e in
      let here : folded_at s p ≡ Ok (Some (c, n)) = as_folded s p c n e (λ d. omega (arith, b.high)) in
      record {
        comes = λ o. rw (encode_read s p c n e, q) (went s o Plain p c n here tt Plain (Some (Whole c)) (plain_raw p c b)).comes;
        passes = λ k t l g z. rw (encode_read s p c n e) (passes k t c (omega arith) (scalar s p c n e) g);
        inside = λ z. omega arith;
        near = λ z. omega arith;
      }

  -- one run behind another: what the check says of the two, and where they end
  join_passes : (p : Place) (r k n : ℕ) (t : Seen) → Raw s p r → Raw s (on_by r p) k → n ≤ p.0 → Fair t → 0 < r + k
      → feeds (n + length (take r (drop p.0 s))) (feeds n t (take r (drop p.0 s))) (take k (drop (p.0 + r) s)) ≡ pass t
  join_passes p zero k n t a b l f z = rw feeds_none (b.passes (n + 0) t (omega arith) f (omega arith))
  join_passes p (suc r) zero n t a b l f z = rw feeds_none (a.passes n t l f (omega arith))
  join_passes p (suc r) (suc k) n t a b l f z =
      let most : n + length (take (suc r) (drop p.0 s)) ≤ p.0 + suc r = omega (arith, length-take (suc r) (drop p.0 s)) in
      rw (a.passes n t l f (omega arith)) (b.passes _ (pass t) most (pass_fair t f) (omega arith) ∙ pass_twice t)

  join_ends : (p : Place) (r k : ℕ) → Raw s p r → Raw s (on_by r p) k → 0 < r + k → (p.0 + (r + k) ≤ length s) × (p.0 + (r + k) ≤ cap + 4)
  join_ends p r zero a b z = (omega (arith, a.inside (omega arith)), omega (arith, a.near (omega arith)))
  join_ends p r (suc k) a b z = (omega (arith, b.inside (omega arith)), omega (arith, b.near (omega arith)))

  pub raw_join : (p : Place) (r k : ℕ) → Raw s p r → Raw s (on_by r p) k → Raw s p (r + k)
  raw_join p r k a b =
      let front = take r (drop p.0 s) in
      let back = take k (drop (p.0 + r) s) in
      let bytes : take (r + k) (drop p.0 s) ≡ front ++ back = take-add r k (drop p.0 s) ∙ rw drop-drop in
      record {
        comes = λ o.
            rw (bytes, ← add_assoc p.0 r k) (comes_on s o Plain Plain Plain p (on_by r p) (on_by k (on_by r p)) _ _ (a.comes o) (b.comes o));
        passes = λ n t l f z. rw bytes (feeds_append n t front back ∙ join_passes p r k n t a b l f z);
        inside = λ z. (join_ends p r k a b z).0;
        near = λ z. (join_ends p r k a b z).1;
      }

  -- from p to q, and from there to m
  raw_then : (p : Place) (q m : ℕ) → p.0 ≤ q → q ≤ m → Raw s p (q - p.0) → Raw s (place q) (m - q) → Raw s p (m - p.0)
  raw_then p q m x y a b =
      let e : p.0 + (q - p.0) ≡ q = omega arith in
      let f : q - p.0 + (m - q) ≡ m - p.0 = omega arith in
      rw f at (raw_join p (q - p.0) (m - q) a (rw e b))

  -- a bare byte
  abbrev standing : ℕ → Bool
  standing b = within 0x20 0x7E b && not (eqb b 0x22 || eqb b 0x5C)

  all_standing : all_below 128 (λ b. not (in_set bare b) || standing b) ≡ true
  unfolding all_below in_set within
  all_standing = refl

  bare_is : (b : ℕ) → in_set bare b ≡ true → Bare b × (b < 0x7F)
  bare_is b e =
      let a = and_both (within 0x20 0x7E b) (not (eqb b 0x22 || eqb b 0x5C)) (each_of_set bare standing all_standing b e) in
      let w = within_true 0x20 0x7E b a.0 in
      let n = or_neither (eqb b 0x22) (eqb b 0x5C) (not-true _ a.1) in
      (record { high = w.0; quote = eqb-false _ _ n.0; slash = eqb-false _ _ n.1; del = λ d. omega arith }, omega arith)

  raw_bare : (p : Place) → p.0 < length s → p.0 < cap → in_set bare (byte_at s p) ≡ true → Raw s p 1
  raw_bare p h k e =
      let b = bare_is (byte_at s p) e in
      let q : p.0 + 1 - p.0 ≡ 1 = omega arith in
      rw q at (raw_one p (byte_at s p) (on_by 1 p) (ascii_at_lem s p h k (omega (arith, b.1))) b.0)

  -- as many of them as stand from a place on
  raw_bares : (p : Place) (m : ℕ) → p.0 + m ≤ length s → p.0 + m ≤ cap
      → ((i : ℕ) → i < m → in_set bare (byte_at s (on_by i p)) ≡ true) → Raw s p m
  raw_bares p zero h k on = raw_none p
  raw_bares p (suc m) h k on =
      let e : m + 1 ≡ suc m = omega arith in
      rw e at (raw_join p m 1 (raw_bares p m (omega arith) (omega arith) (λ i l. on i (omega arith)))
      (raw_bare (on_by m p) (omega arith) (omega arith) (on m (omega arith))))

  -- THE LAW of the fast way: behind r raw bytes, to where the bare ones end
  pub raw_to : (p q : Place) → p.0 ≤ q.0 → Raw s p (q.0 - p.0) → Raw s p ((run_end s bare q).0 - p.0)
  unfolding run_end byte_at
  raw_to p q l a =
      let left = min (length s) cap - q.0 in
      go (first (stops_at s bare) q.0 left) (first_from (stops_at s bare) left q.0) (first_le (stops_at s bare) left q.0)
      (λ j x y. not-false _ (none_before (stops_at s bare) left q.0 j x y))
    where
      go : (m : ℕ) → q.0 ≤ m → m ≤ q.0 + (min (length s) cap - q.0) → ((j : ℕ) → q.0 ≤ j → j < m → in_set bare (get_or s j 0) ≡ true)
          → Raw s p (m - p.0)
      go m x y on =
          split q.0 m (λ z. let e : q.0 ≡ m = omega arith in rw e at a) (λ z.
          raw_then p q.0 m l x a
          (raw_bares q (m - q.0) (omega arith) (omega arith) (λ i b. on (q.0 + i) (omega arith) (omega arith))))

  -- and of a character that has more bytes than one
  pub raw_high : (p : Place) (q c : ℕ) (n : Place) → p.0 ≤ q → Raw s p (q - p.0)
      → char_at s (place q) ≡ Ok (Some (c, n)) → 0x80 ≤ byte_at s (place q) → Raw s p (n.0 - p.0)
  raw_high p q c n l a e h =
      let w = onward s (place q) c n e in
      raw_then p q n.0 l (omega arith) a (raw_one (place q) c n e bare)
    where
      above : 0x7F < c
      above = split 0x7F c (λ k. absurd (omega (arith, ascii_byte s (place q) c n e k))) (λ k. k)

      bare : Bare c
      bare = record { high = omega (arith, above); quote = λ d. omega (arith, above); slash = λ d. omega (arith, above); del = λ d. omega (arith, above) }

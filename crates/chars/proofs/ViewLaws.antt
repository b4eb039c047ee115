-- The laws of a view: what stands at a place says how the view from there begins, and it goes on from the next place.
-- No proof above these looks at the number of turns.
use Rattle.std.specs.Prelude.{if◌then◌else◌}
use Prim.Native.Nat.{ℕ, zero, suc, ◌≤◌, ◌<◌, ◌+◌, ◌-◌}
use mathlib.Core.Path.{◌≡◌, refl, sym, ap, ◌∙◌}
use mathlib.Core.Bool.{Bool, true, false, ◌&&◌, and-false}
use mathlib.Core.List.{List}
use mathlib.Core.Logic.{◌⊎◌, inl, inr, ⊎_elim}
use native.Mathlib.Nat.{add-zero}
use native.Mathlib.Omega.{arith}
use lib.Dec.{eqb}
use lib.ListN.{length}
use borrow.Author.Tests.{eqb-true, eq-eqb, ne_eqb}
use Rattle.terms.proofs.TestLaws.{and_both}
use Rattle.answers.specs.declared.Place.{Place}
use Rattle.answers.specs.declared.Ill.{Ill as Sequence}
use Rattle.answers.specs.Caps.{cap}
use Rattle.chars.specs.Utf8.{byte_at, on_by, char_at, is_scalar}
use Rattle.chars.specs.View.{Chars, end, ill, char, place_of, seen_at, seen_by, chars_from, folded, folded_at, folded_from}
use Rattle.chars.specs.Utf8.{Read}
use Rattle.std.specs.Prelude.{None, Some, Ok, Err}
use Rattle.chars.proofs.Utf8Laws.{Onward, onward, byte_in, scalar, scalar_low, four_at_most, ill_at_lem, end_at, ascii_at_lem}
use Rattle.chars.proofs.Utf8Laws.{char_is, char_not_end, char_not_ill}

-- a reading r folded, f, is r, or a newline where the byte of one stands behind the character of r
abbrev Folds : List ℕ → Read → Read → Type 0
Folds s r f = (f ≡ r) ⊎ ((d : ℕ) × (m : Place) × (r ≡ Ok (Some (d, m))) × (byte_at s m ≡ 10) × (f ≡ Ok (Some (10, on_by 1 m))))

folds : (s : List ℕ) (r : Read) → Folds s r (folded s r)
unfolding folded
folds s (Ok None) = inl refl
folds s (Err i) = inl refl
folds s (Ok (Some (d, m))) = go (eqb d 13 && eqb (byte_at s m) 10) refl
  where
    go : (t : Bool) → (eqb d 13 && eqb (byte_at s m) 10) ≡ t → Folds s (Ok (Some (d, m))) (if t then Ok (Some (10, on_by 1 m)) else Ok (Some (d, m)))
    go true e = inr (d, m, refl, eqb-true _ _ (and_both (eqb d 13) (eqb (byte_at s m) 10) e).1, refl)
    go false e = inl refl

-- a folded character goes on, and is a scalar
module _ (s : List ℕ) (p : Place) (c : ℕ) (n : Place) where
  folded_says : folded_at s p ≡ Ok (Some (c, n)) → Onward s p n × (is_scalar c ≡ true)
  unfolding folded_at
  folded_says e =
      ⊎_elim (λ h. (onward s p c n (sym h ∙ e), scalar s p c n (sym h ∙ e)))
      (λ w.
      let o = onward s p w.0 w.1 w.2 in
      let f = four_at_most s p w.0 w.1 w.2 in
      let l = byte_in s w.1 (omega (arith, w.3)) in
      let q = char_is (sym w.4 ∙ e) in
      let k : w.1.0 + 1 ≡ n.0 = ap (λ (x : Place). x.0) q.1 in (omega arith, scalar_low c (omega arith)))
      (folds s (char_at s p))

  pub folded_onward : folded_at s p ≡ Ok (Some (c, n)) → Onward s p n
  folded_onward e = (folded_says e).0

  pub folded_scalar : folded_at s p ≡ Ok (Some (c, n)) → is_scalar c ≡ true
  folded_scalar e = (folded_says e).1

-- what a folded reading says of the reading
module _ (s : List ℕ) (p : Place) where
  pub folded_ill_at : (i : Sequence) → folded_at s p ≡ Err i → i ≡ record { at = p }
  unfolding folded_at
  folded_ill_at i e =
      ⊎_elim (λ h. ill_at_lem s p i (sym h ∙ e)) (λ w. absurd (char_not_ill (sym e ∙ w.4))) (folds s (char_at s p))

  pub folded_end_at : length s ≤ cap → folded_at s p ≡ Ok None → length s ≤ p.0
  unfolding folded_at
  folded_end_at k e =
      ⊎_elim (λ h. end_at s p k (sym h ∙ e)) (λ w. absurd (char_not_end (sym e ∙ w.4))) (folds s (char_at s p))

  -- a byte below 0x80 that is no carriage return is a character by itself
  pub folded_ascii_at : p.0 < length s → p.0 < cap → byte_at s p < 0x80 → (byte_at s p ≡ 13 → ⊥) → folded_at s p ≡ Ok (Some (byte_at s p, on_by 1 p))
  unfolding folded_at folded
  folded_ascii_at i k h d = rw (ascii_at_lem s p i k h, ne_eqb _ _ d)

-- only a carriage return reads otherwise so, and only as a newline
module _ (s : List ℕ) (p : Place) (c : ℕ) (n : Place) where
  pub as_folded : char_at s p ≡ Ok (Some (c, n)) → (c ≡ 13 → ⊥) → folded_at s p ≡ Ok (Some (c, n))
  unfolding folded_at folded
  as_folded e d = rw (e, ne_eqb _ _ d)

  pub as_folded_before : char_at s p ≡ Ok (Some (c, n)) → (byte_at s n ≡ 10 → ⊥) → folded_at s p ≡ Ok (Some (c, n))
  unfolding folded_at folded
  as_folded_before e d = rw (e, ne_eqb _ _ d, and-false)

  pub cr_lf_folded : char_at s p ≡ Ok (Some (c, n)) → c ≡ 13 → byte_at s n ≡ 10 → folded_at s p ≡ Ok (Some (10, on_by 1 n))
  unfolding folded_at folded
  cr_lf_folded e h l = rw (e, eq-eqb _ _ h, eq-eqb _ _ l)

  pub folded_is : folded_at s p ≡ Ok (Some (c, n)) → (c ≡ 10) ⊎ (char_at s p ≡ Ok (Some (c, n)))
  unfolding folded_at
  folded_is e =
      ⊎_elim (λ h. inr (sym h ∙ e)) (λ w. inl (sym (char_is (sym w.4 ∙ e)).0)) (folds s (char_at s p))

-- of any way `at` to read that goes on with each character and stays within the text
module _ (at : Place → Read) (s : List ℕ) (on : (p : Place) (c : ℕ) (n : Place) → at p ≡ Ok (Some (c, n)) → Onward s p n) where
  -- any two numbers of turns that are enough see the same
  enough : (k j : ℕ) (p : Place) → length s - p.0 < k → length s - p.0 < j → seen_by at k p ≡ seen_by at j p
  unfolding seen_by seen_at
  enough zero j p h i = absurd (omega arith)
  enough (suc k) zero p h i = absurd (omega arith)
  enough (suc k) (suc j) p h i = go (at p) refl (λ n. enough k j n)
    where
      go : (r : Read) → at p ≡ r → ((n : Place) → length s - n.0 < k → length s - n.0 < j → seen_by at k n ≡ seen_by at j n)
          → seen_at p r (seen_by at k) ≡ seen_at p r (seen_by at j)
      go (Ok None) e ih = refl
      go (Err i) e ih = refl
      go (Ok (Some (c, n))) e ih = let o = on p c n e in ap (char p c) (ih n (omega arith) (omega arith))

  by_char : (p : Place) (c : ℕ) (n : Place) → at p ≡ Ok (Some (c, n))
      → seen_by at (suc (length s - p.0)) p ≡ char p c (seen_by at (suc (length s - n.0)) n)
  unfolding seen_by seen_at
  by_char p c n e =
      let o = on p c n e in
      rw e (ap (char p c) (enough (length s - p.0) (suc (length s - n.0)) n (omega arith) (omega arith)))

module _ (s : List ℕ) (p : Place) where
  pub chars_end : char_at s p ≡ Ok None → chars_from s p ≡ end p
  unfolding chars_from seen_by seen_at
  chars_end e = rw e

  pub chars_ill : (i : Sequence) → char_at s p ≡ Err i → chars_from s p ≡ ill i
  unfolding chars_from seen_by seen_at
  chars_ill i e = rw e

  pub chars_char : (c : ℕ) (n : Place) → char_at s p ≡ Ok (Some (c, n)) → chars_from s p ≡ char p c (chars_from s n)
  unfolding chars_from
  chars_char c n e = by_char (char_at s) s (onward s) p c n e

  pub folded_end : folded_at s p ≡ Ok None → folded_from s p ≡ end p
  unfolding folded_from seen_by seen_at
  folded_end e = rw e

  pub folded_ill : (i : Sequence) → folded_at s p ≡ Err i → folded_from s p ≡ ill i
  unfolding folded_from seen_by seen_at
  folded_ill i e = rw e

  pub folded_char : (c : ℕ) (n : Place) → folded_at s p ≡ Ok (Some (c, n)) → folded_from s p ≡ char p c (folded_from s n)
  unfolding folded_from
  folded_char c n e = by_char (folded_at s) s (folded_onward s) p c n e

  pub folded_place : place_of (folded_from s p) ≡ p
  unfolding folded_from seen_by seen_at place_of
  folded_place = go (folded_at s p) refl
    where
      go : (r : Read) → folded_at s p ≡ r → place_of (seen_at p r (seen_by (folded_at s) (length s - p.0))) ≡ p
      go (Ok None) e = refl
      go (Err i) e = ap (λ (j : Sequence). j.at) (folded_ill_at s p i e)
      go (Ok (Some (c, n))) e = refl

-- the places of a view go up from p, and stay within len
abbrev pub Ordered : ℕ → Place → Chars → Type 0
Ordered len p (end q) = q ≡ p
Ordered len p (ill i) = i.at ≡ p
Ordered len p (char q c v) = (q ≡ p) × ((n : Place) × (p.0 < n.0) × (n.0 ≤ len) × Ordered len n v)

by_ordered : (s : List ℕ) (k : ℕ) (p : Place) → Ordered (length s) p (seen_by (folded_at s) k p)
unfolding seen_by seen_at
by_ordered s zero p = refl
by_ordered s (suc k) p = go (folded_at s p) refl (by_ordered s k)
  where
    go : (r : Read) → folded_at s p ≡ r → ((n : Place) → Ordered (length s) n (seen_by (folded_at s) k n))
        → Ordered (length s) p (seen_at p r (seen_by (folded_at s) k))
    go (Ok None) e ih = refl
    go (Err i) e ih = ap (λ (j : Sequence). j.at) (folded_ill_at s p i e)
    go (Ok (Some (c, n))) e ih = let o = folded_onward s p c n e in (refl, (n, o.beyond, o.inside, ih n))

pub folded_ordered : (s : List ℕ) (p : Place) → Ordered (length s) p (folded_from s p)
unfolding folded_from
folded_ordered s p = by_ordered s (suc (length s - p.0)) p

-- a view starts where it is ordered from
pub ordered_place : (len : ℕ) (p : Place) (v : Chars) → Ordered len p v → place_of v ≡ p
unfolding place_of
ordered_place len p (end q) h = h
ordered_place len p (ill i) h = h
ordered_place len p (char q c v) h = h.0

-- what stays the same from each of m places to the next is the same m places on
pub strides : {A : Type 0} (F : Place → A) (p : Place) (m : ℕ) → ((i : ℕ) → i < m → F (on_by i p) ≡ F (on_by 1 (on_by i p))) → F p ≡ F (on_by m p)
strides F p zero on = ap (λ (n : ℕ). F (record { 0 = n })) (sym (add-zero p.0))
strides F p (suc m) on =
    let e : p.0 + m + 1 ≡ p.0 + suc m = omega arith in
    strides F p m (λ i h. on i (omega arith)) ∙ on m (omega arith) ∙ ap (λ (n : ℕ). F (record { 0 = n })) e

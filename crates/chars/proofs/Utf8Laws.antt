-- What `specs/Utf8.antt` yields: bounds on the bytes of a sequence, that a character ends beyond its start and within the text, and that it is a scalar.
use Rattle.std.specs.Prelude.{if◌then◌else◌}
use Prim.Native.Nat.{ℕ, ◌≤◌, ◌<◌, ◌+◌, ◌*◌, min}
use mathlib.Core.Path.{◌≡◌, refl, sym, ap, ◌∙◌}
use mathlib.Core.Bool.{Bool, true, false, ◌&&◌, ◌||◌}
use mathlib.Core.Option.{Option, some}
use mathlib.Core.List.{List, [], ◌∷◌}
use mathlib.Core.Logic.{◌⊎◌, inl, inr, ⊎_elim}
use native.Mathlib.Omega.{arith}
use lib.Dec.{leb}
use lib.ListN.{length, get_or, get_or-eq_default}
use borrow.Author.Tests.{leb-true, leb-false, le-leb, lt-leb}
use Rattle.terms.specs.Terms.{within, Row, ◌to◌is◌, said}
use Rattle.terms.proofs.TestLaws.{and_both, within_true, within_yes}
use Rattle.terms.proofs.TableLaws.{Rest, in_match, word, is_key, is_keys, up, down, split}
use Rattle.answers.specs.declared.Place.{Place}
use Rattle.answers.specs.declared.Ill.{Ill as Sequence}
use Rattle.answers.specs.Caps.{cap}
use Rattle.chars.specs.Utf8.{byte_at, on_by, leads, lead_of, is_tail, ill_at, char_by, char_at, is_scalar}
use Rattle.chars.specs.Utf8.{Read}
use Rattle.std.specs.Prelude.{None, Some, Ok, Err}
use Rattle.chars.specs.declared.Lead.{Lead}
use Rattle.chars.specs.declared.Lead.TheVariants.{Alone, Two, Three, Four, Never}

-- what holds of each row on its range, and of the others, holds of what is said
abbrev pub Each : {A : Type 0} → (ℕ → A → Type 0) → List (Row A) → Type 0
Each P [] = Unit {0}
Each P (a to b is v ∷ rows) = ((x : ℕ) → a ≤ x → x ≤ b → P x v) × Each P rows

pub each : {A : Type 0} (P : ℕ → A → Type 0) (rows : List (Row A)) (other : A) → Each P rows → (x : ℕ) → P x other → P x (said rows other x)
unfolding said
each P [] other h x o = o
each P ((a to b is v) ∷ rows) other h x o = go (within a b x) refl (each P rows other h.1 x o)
  where
    go : (t : Bool) → within a b x ≡ t → P x (said rows other x) → P x (if t then v else said rows other x)
    go true e ih = let w = within_true a b x e in h.0 x w.0 w.1
    go false e ih = ih

-- THE LAW of a first byte. The last facts of three and four bytes keep the number off the overlong forms, the surrogates and what is above 10FFFF
abbrev pub Lawful : ℕ → Lead → Type 0
Lawful b Alone = b ≤ 0x7F
Lawful b (Two low high) = (0xC2 ≤ b) × (b ≤ 0xDF) × (0x80 ≤ low) × (high ≤ 0xBF)
Lawful b (Three low high) =
    (0xE0 ≤ b) × (b ≤ 0xEF) × (0x80 ≤ low) × (high ≤ 0xBF) × (0x20 + 0xE0 * 64 + 0x80 ≤ b * 64 + low)
    × ((b * 64 + high ≤ 0x35F + 0xE0 * 64 + 0x80) ⊎ (0x380 + 0xE0 * 64 + 0x80 ≤ b * 64 + low))
Lawful b (Four low high) =
    (0xF0 ≤ b) × (b ≤ 0xF4) × (0x80 ≤ low) × (high ≤ 0xBF) × (0x10 + 0xF0 * 64 + 0x80 ≤ b * 64 + low)
    × (b * 64 + high ≤ 0x10F + 0xF0 * 64 + 0x80)
Lawful b Never = Unit {0}

infixr 5 ◌and◌
◌and◌ : {A B : Type 0} → A → B → A × B
a and b = (a, b)

rows_lawful : Each Lawful leads
unfolding leads
rows_lawful =
    (λ x p q. q)
    and (λ x p q. omega arith)
    and (λ x p q. (omega arith, omega arith, omega arith, omega arith, omega arith, inl (omega arith)))
    and (λ x p q. (omega arith, omega arith, omega arith, omega arith, omega arith, inl (omega arith)))
    and (λ x p q. (omega arith, omega arith, omega arith, omega arith, omega arith, inl (omega arith)))
    and (λ x p q. (omega arith, omega arith, omega arith, omega arith, omega arith, inr (omega arith)))
    and (λ x p q. omega arith)
    and (λ x p q. omega arith)
    and (λ x p q. omega arith)
    and tt

pub lawful : (b : ℕ) (l : Lead) → lead_of b ≡ l → Lawful b l
unfolding lead_of
lawful b l e = rw e at (each Lawful leads Never rows_lawful b tt)

-- what each byte of low, …, high starts that is no key of a `match`, where that is one thing: it is computed
unfoldable pub leads_on : List (List ℕ) → ℕ → ℕ → Option Lead
unfolding leads word is_key is_keys up down
leads_on kss low high = word kss (up kss 64 low) (down kss 64 high) leads Never

pub lead_in : (kss : List (List ℕ)) (low high b : ℕ) (l : Lead) → Rest (Unit {0}) kss b → low ≤ b → b ≤ high
    → leads_on kss low high ≡ some l → lead_of b ≡ l
unfolding leads_on lead_of
lead_in kss low high b l r p q e = in_match kss low high b r p q leads Never l e

pub tail_bounds : (c : ℕ) → is_tail c ≡ true → (0x80 ≤ c) × (c ≤ 0xBF)
unfolding is_tail
tail_bounds c e = within_true 0x80 0xBF c e

-- the bytes of a sequence that is well-formed
pub record TwoIn (b c : ℕ) : Type 0 where
  pub first : (0xC2 ≤ b) × (b ≤ 0xDF)
  pub second : (0x80 ≤ c) × (c ≤ 0xBF)

pub two_in : (b c low high : ℕ) → lead_of b ≡ Two low high → within low high c ≡ true → TwoIn b c
two_in b c low high h e =
    let l = lawful b _ h in
    let w = within_true low high c e in omega arith

pub record ThreeIn (b c d : ℕ) : Type 0 where
  pub first : (0xE0 ≤ b) × (b ≤ 0xEF)
  pub second : (0x80 ≤ c) × (c ≤ 0xBF)
  pub third : (0x80 ≤ d) × (d ≤ 0xBF)

pub three_in : (b c d low high : ℕ) → lead_of b ≡ Three low high → (within low high c && is_tail d) ≡ true → ThreeIn b c d
three_in b c d low high h e =
    let l = lawful b _ h in
    let a = and_both (within low high c) (is_tail d) e in
    let w = within_true low high c a.0 in
    let v = tail_bounds d a.1 in omega arith

pub record FourIn (b c d f : ℕ) : Type 0 where
  pub first : (0xF0 ≤ b) × (b ≤ 0xF4)
  pub second : (0x80 ≤ c) × (c ≤ 0xBF)
  pub third : (0x80 ≤ d) × (d ≤ 0xBF)
  pub fourth : (0x80 ≤ f) × (f ≤ 0xBF)

pub four_in : (b c d f low high : ℕ) → lead_of b ≡ Four low high → (within low high c && (is_tail d && is_tail f)) ≡ true → FourIn b c d f
four_in b c d f low high h e =
    let l = lawful b _ h in
    let a = and_both (within low high c) (is_tail d && is_tail f) e in
    let a' = and_both (is_tail d) (is_tail f) a.1 in
    let w = within_true low high c a.0 in
    let v = tail_bounds d a'.0 in
    let u = tail_bounds f a'.1 in omega arith

-- past the end a byte reads as 0, so a byte that is not 0 is in the text
pub byte_in : (s : List ℕ) (p : Place) → 0 < byte_at s p → p.0 < length s
unfolding byte_at
byte_in s p h = go (leb (length s) p.0) refl
  where
    go : (t : Bool) → leb (length s) p.0 ≡ t → p.0 < length s
    go true e = let z : get_or s p.0 0 ≡ 0 = get_or-eq_default s 0 (leb-true _ _ e) in omega arith
    go false e = leb-false _ _ e

-- THE LAW of a character: it ends beyond its start, and within the text. Its start is below the cap and its end near, so no sum with it is too large
pub record Onward (s : List ℕ) (p n : Place) : Type 0 where
  pub beyond : p.0 < n.0
  pub inside : n.0 ≤ length s
  pub capped : p.0 < cap
  pub near : n.0 ≤ p.0 + 5

pub scalar_low : (c : ℕ) → c ≤ 0xD7FF → is_scalar c ≡ true
unfolding is_scalar
scalar_low c h = rw (le-leb c 0xD7FF h)

pub scalar_high : (c : ℕ) → 0xE000 ≤ c → c ≤ 0x10FFFF → is_scalar c ≡ true
unfolding is_scalar
scalar_high c h k = rw (lt-leb c 0xD7FF (omega arith)) (within_yes 0xE000 0x10FFFF c h k)

pub scalar_is : (c : ℕ) → is_scalar c ≡ true → (c ≤ 0xD7FF) ⊎ ((0xE000 ≤ c) × (c ≤ 0x10FFFF))
unfolding is_scalar
scalar_is c e = go (leb c 0xD7FF) refl e
  where
    go : (t : Bool) → leb c 0xD7FF ≡ t → (t || within 0xE000 0x10FFFF c) ≡ true → (c ≤ 0xD7FF) ⊎ ((0xE000 ≤ c) × (c ≤ 0x10FFFF))
    go true h e = inl (leb-true _ _ h)
    go false h e = inr (within_true 0xE000 0x10FFFF c e)

pub scalar_at_most : (c : ℕ) → is_scalar c ≡ true → c ≤ 0x10FFFF
scalar_at_most c e = ⊎_elim (λ h. omega arith) (λ h. h.1) (scalar_is c e)

-- what a character's equation says
pub char_is : {c d : ℕ} {n m : Place} → ◌≡◌ {A = Read} (Ok (Some (c, n))) (Ok (Some (d, m))) → (c ≡ d) × (n ≡ m)
char_is {c = c} {d = d} {n = n} {m = m} e =
    let z : ◌≡◌ {A = ℕ × Place} (c, n) (d, m) = cc in (ap (λ (x : ℕ × Place). x.0) z, ap (λ (x : ℕ × Place). x.1) z)

pub char_not_end : {c : ℕ} {n : Place} → ◌≡◌ {A = Read} (Ok None) (Ok (Some (c, n))) → ⊥
char_not_end e = let z : ◌≡◌ {A = ℕ} 0 1 = cc in omega arith

pub char_not_ill : {c : ℕ} {n : Place} {i : Sequence} → ◌≡◌ {A = Read} (Err i) (Ok (Some (c, n))) → ⊥
char_not_ill e = let z : ◌≡◌ {A = ℕ} 0 1 = cc in omega arith

-- what is read where a test decides
pub chosen : (t : Bool) (p : Place) {c x : ℕ} {n m : Place} → (if t then Ok (Some (x, m)) else ill_at p) ≡ Ok (Some (c, n)) → (t ≡ true) × (x ≡ c) × (m.0 ≡ n.0)
chosen true p e = (refl, (char_is e).0, ap (λ (q : Place). q.0) (char_is e).1)
chosen false p e = absurd (char_not_ill e)

-- what the bytes from a place on read as, where the first starts this
abbrev pub reads_by : List ℕ → Place → Lead → Read
reads_by s p l = char_by p (byte_at s p) (byte_at s (on_by 1 p)) (byte_at s (on_by 2 p)) (byte_at s (on_by 3 p)) l

-- the tests on the bytes behind the first
abbrev pub ranged : List ℕ → Place → ℕ → ℕ → Bool
ranged s p low high = within low high (byte_at s (on_by 1 p))

abbrev pub tail : List ℕ → Place → ℕ → Bool
tail s p i = is_tail (byte_at s (on_by i p))

-- what stands at a place that is in the text
pub stands : (s : List ℕ) (p : Place) → p.0 < length s → p.0 < cap → char_at s p ≡ reads_by s p (lead_of (byte_at s p))
unfolding char_at
stands s p h k = rw (lt-leb _ _ h, lt-leb _ _ k)

-- with the first byte, and what it starts, at hand
pub stands_by : (s : List ℕ) (p : Place) (b : ℕ) (l : Lead) → p.0 < length s → p.0 < cap → b ≡ byte_at s p → lead_of b ≡ l
    → char_at s p ≡ char_by p b (byte_at s (on_by 1 p)) (byte_at s (on_by 2 p)) (byte_at s (on_by 3 p)) l
stands_by s p b l h k e f = stands s p h k ∙ rw (← e, f)

-- a place is at the end or beyond it, or in the text
abbrev pub Stands : List ℕ → Place → Type 0
Stands s p =
    ((min (length s) cap ≤ p.0) × (char_at s p ≡ Ok None))
    ⊎ ((p.0 < length s) × (p.0 < cap) × (char_at s p ≡ reads_by s p (lead_of (byte_at s p))))

pub stands_so : (s : List ℕ) (p : Place) → Stands s p
unfolding char_at
stands_so s p =
    split p.0 (length s) (λ h. inl (omega arith, rw (le-leb _ _ h))) (λ h.
    split p.0 cap (λ k. inl (omega arith, rw (lt-leb _ _ h, le-leb _ _ k))) (λ k. inr (h, k, stands s p h k)))

module _ (s : List ℕ) (p : Place) (c : ℕ) (n : Place) where
  abbrev Says : Type 0
  Says = Onward s p n × (is_scalar c ≡ true) × (n.0 ≤ p.0 + 4)

  ways : (l : Lead) → lead_of (byte_at s p) ≡ l → p.0 < length s → p.0 < cap → reads_by s p l ≡ Ok (Some (c, n)) → Says
  unfolding char_by
  ways Alone h i k e =
      let q = char_is e in
      let m : p.0 + 1 ≡ n.0 = ap (λ (x : Place). x.0) q.1 in
      let b = lawful _ _ h in (omega arith, scalar_low c (omega arith), omega arith)
  ways (Two low high) h i k e =
      let q = chosen _ p e in
      let b = lawful _ _ h in
      let w = within_true low high _ q.0 in
      let l = byte_in s (on_by 1 p) (omega arith) in (omega arith, scalar_low c (omega arith), omega arith)
  ways (Three low high) h i k e =
      let q = chosen _ p e in
      let b = lawful _ _ h in
      let a = and_both (ranged s p low high) (tail s p 2) q.0 in
      let w = within_true low high _ a.0 in
      let v = tail_bounds _ a.1 in
      let l = byte_in s (on_by 2 p) (omega arith) in
      (omega arith, ⊎_elim (λ g. scalar_low c (omega arith)) (λ g. scalar_high c (omega arith) (omega arith)) b.5, omega arith)
  ways (Four low high) h i k e =
      let q = chosen _ p e in
      let b = lawful _ _ h in
      let a = and_both (ranged s p low high) (tail s p 2 && tail s p 3) q.0 in
      let a' = and_both (tail s p 2) (tail s p 3) a.1 in
      let w = within_true low high _ a.0 in
      let v = tail_bounds _ a'.0 in
      let u = tail_bounds _ a'.1 in
      let l = byte_in s (on_by 3 p) (omega arith) in (omega arith, scalar_high c (omega arith) (omega arith), omega arith)
  ways Never h i k e = absurd (char_not_ill e)

  both : char_at s p ≡ Ok (Some (c, n)) → Says
  both e =
      ⊎_elim (λ w. absurd (char_not_end (sym w.1 ∙ e))) (λ w. ways (lead_of (byte_at s p)) refl w.0 w.1 (sym w.2 ∙ e)) (stands_so s p)

  pub onward : char_at s p ≡ Ok (Some (c, n)) → Onward s p n
  onward e = (both e).0

  pub scalar : char_at s p ≡ Ok (Some (c, n)) → is_scalar c ≡ true
  scalar e = (both e).1

  pub four_at_most : char_at s p ≡ Ok (Some (c, n)) → n.0 ≤ p.0 + 4
  four_at_most e = (both e).2

-- what an ill-formed sequence's equation says: it starts at the place that was asked
ill_is : {i j : Sequence} → ◌≡◌ {A = Read} (Err i) (Err j) → i ≡ j
ill_is e = cc

pub end_not_ill : {i : Sequence} → ◌≡◌ {A = Read} (Ok None) (Err i) → ⊥
end_not_ill e = let z : ◌≡◌ {A = ℕ} 0 1 = cc in omega arith

-- what is read by a first byte is a character, or ill-formed at its own place
abbrev Decided : Place → Read → Type 0
Decided p r = ((c : ℕ) × (n : Place) × (r ≡ Ok (Some (c, n)))) ⊎ (r ≡ ill_at p)

decided : (t : Bool) (p : Place) (c : ℕ) (n : Place) → Decided p (if t then Ok (Some (c, n)) else ill_at p)
decided true p c n = inl (c, n, refl)
decided false p c n = inr refl

module _ (s : List ℕ) (p : Place) where
  by_lead : (l : Lead) → Decided p (reads_by s p l)
  unfolding char_by
  by_lead Alone = inl (byte_at s p, on_by 1 p, refl)
  by_lead (Two low high) = decided (ranged s p low high) p _ _
  by_lead (Three low high) = decided (ranged s p low high && tail s p 2) p _ _
  by_lead (Four low high) = decided (ranged s p low high && (tail s p 2 && tail s p 3)) p _ _
  by_lead Never = inr refl

  pub ill_at_lem : (i : Sequence) → char_at s p ≡ Err i → i ≡ record { at = p }
  ill_at_lem i e =
      ⊎_elim (λ w. absurd (end_not_ill (sym w.1 ∙ e)))
      (λ w. ⊎_elim (λ d. absurd (char_not_ill (sym (sym w.2 ∙ e) ∙ d.2))) (λ d. ill_is (sym e ∙ w.2 ∙ d)) (by_lead (lead_of (byte_at s p))))
      (stands_so s p)

  -- the end of a text that is not too long is its length
  pub end_at : length s ≤ cap → char_at s p ≡ Ok None → length s ≤ p.0
  end_at k e =
      ⊎_elim (λ w. omega arith)
      (λ w. ⊎_elim (λ d. absurd (char_not_end (sym e ∙ w.2 ∙ d.2))) (λ d. absurd (end_not_ill (sym e ∙ w.2 ∙ d))) (by_lead (lead_of (byte_at s p))))
      (stands_so s p)

  -- a byte below 0x80 is a character by itself
  pub ascii_at_lem : p.0 < length s → p.0 < cap → byte_at s p < 0x80 → char_at s p ≡ Ok (Some (byte_at s p, on_by 1 p))
  unfolding char_at char_by lead_of leads said
  ascii_at_lem i k h = rw (lt-leb _ _ i, lt-leb _ _ k, within_yes 0 0x7F (byte_at s p) (omega arith) (omega arith))

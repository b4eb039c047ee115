-- Plain text is as many characters, of one byte each.
use Prim.Native.Nat.{ℕ, ◌-◌, ◌≤◌, ◌<◌, min}
use mathlib.Core.Path.{◌≡◌, refl, sym}
use mathlib.Core.Bool.{Bool, true, false, not, ◌||◌}
use mathlib.Core.List.{List, [], ◌∷◌}
use mathlib.Core.Logic.{⊎_elim}
use native.Mathlib.Omega.{arith}
use lib.Dec.{eqb}
use Rattle.std.specs.List.{list_any}
use lib.ListN.{length}
use borrow.Author.Tests.{eqb-true, eqb-false, eq-eqb, ne_eqb, not-false}
use Rattle.terms.specs.Terms.{within, member}
use Rattle.terms.proofs.TestLaws.{clash, or_either, or_neither, within_true}
use Rattle.terms.proofs.FirstLaws.{first_from}
use Rattle.answers.specs.declared.Place.{Place}
use Rattle.answers.specs.Caps.{cap}
use Rattle.chars.specs.Utf8.{byte_at, on_by, char_at}
use Rattle.chars.specs.View.{folded_at}
use Rattle.std.specs.Prelude.{Ok, Some}
use Rattle.chars.proofs.Utf8Laws.{ascii_at_lem}
use Rattle.chars.proofs.ViewLaws.{folded_ascii_at}
use Rattle.chars.proofs.SeekLaws.{seek_steps}
use Rattle.screening.specs.inner.Plain.{is_plain, halts, halts_at, plain_end}

-- what holds of 0x20, …, 0x7E and of 9, 10 and 13 holds of each plain byte
pub plain_each : (P : ℕ → Type 0) → ((b : ℕ) → 0x20 ≤ b → b ≤ 0x7E → P b) → P 9 → P 10 → P 13 → (b : ℕ) → is_plain b ≡ true → P b
unfolding is_plain
plain_each P ranged tab line cr b h =
    ⊎_elim (λ w. let z = within_true 0x20 0x7E b w in ranged b z.0 z.1)
    (λ w. ⊎_elim (λ e. rw (eqb-true b 9 e) tab)
    (λ u. ⊎_elim (λ e. rw (eqb-true b 10 e) line) (λ e. rw (eqb-true b 13 e) cr) (or_either (eqb b 10) (eqb b 13) u))
    (or_either (eqb b 9) (eqb b 10 || eqb b 13) w))
    (or_either (within 0x20 0x7E b) (eqb b 9 || (eqb b 10 || eqb b 13)) h)

plain_low : (b : ℕ) → is_plain b ≡ true → b < 0x80
plain_low = plain_each (λ b. b < 0x80) (λ b l m. omega arith) (omega arith) (omega arith) (omega arith)

-- a byte at which plain text less those bytes goes on
pub record Passes (less : List ℕ) (b : ℕ) : Type 0 where
  pub other : member b less ≡ false
  pub plain : is_plain b ≡ true

passes : (less : List ℕ) (b : ℕ) → halts less b ≡ false → Passes less b
unfolding halts
passes less b h =
    let i = or_neither (member b less) (not (is_plain b)) h in
    record { other = i.0; plain = not-false _ i.1 }

eqb_sym : (a b : ℕ) → eqb a b ≡ eqb b a
eqb_sym a b = go (eqb a b) refl
  where
    go : (t : Bool) → eqb a b ≡ t → t ≡ eqb b a
    go true e = sym (eq-eqb b a (sym (eqb-true a b e)))
    go false e = sym (ne_eqb b a (λ h. eqb-false a b e (sym h)))

-- the library's search of a slice tests the same
pub any_member : (b : ℕ) (xs : List ℕ) → list_any (λ (y : ℕ). eqb y b) xs ≡ member b xs
unfolding member
any_member b [] = refl
any_member b (x ∷ xs) = rw (eqb_sym x b, any_member b xs)

module _ (s less : List ℕ) (p : Place) where
  pub plain_beyond : p.0 ≤ (plain_end s less p).0
  unfolding plain_end
  plain_beyond = first_from (halts_at s less) (min (length s) cap - p.0) p.0

  -- THE LAW: what no such byte changes, the whole stretch does not change
  plain_steps : {A : Type 0} (F : Place → A)
      → ((q : Place) → Passes less (byte_at s q) → q.0 < length s → q.0 < cap → F q ≡ F (on_by 1 q)) → F p ≡ F (plain_end s less p)
  unfolding plain_end byte_at
  plain_steps F one =
      seek_steps (halts_at s less) F p (min (length s) cap - p.0) (λ i l e. one (on_by i p) (passes less _ e) (omega arith) (omega arith))

  -- with each byte as the character that it is, as the text stands
  pub plain_strides : {A : Type 0} (F : Place → A)
      → ((q : Place) → is_plain (byte_at s q) ≡ true → char_at s q ≡ Ok (Some (byte_at s q, on_by 1 q)) → F q ≡ F (on_by 1 q))
      → F p ≡ F (plain_end s less p)
  plain_strides F one = plain_steps F (λ q m h k. one q m.plain (ascii_at_lem s q h k (plain_low _ m.plain)))

  -- and folded, where it ends at a carriage return
  pub plain_folded : {A : Type 0} (F : Place → A) → member 13 less ≡ true
      → ((q : Place) → Passes less (byte_at s q) → folded_at s q ≡ Ok (Some (byte_at s q, on_by 1 q)) → F q ≡ F (on_by 1 q))
      → F p ≡ F (plain_end s less p)
  plain_folded F cr one =
      plain_steps F (λ q m h k. one q m (folded_ascii_at s q h k (plain_low _ m.plain) (λ e. clash (member 13 less) cr (rw e at m.other))))

-- The bytes of a character by its size, and what a buffer holds once they are stored one by one.
use Prim.Native.Nat.{ℕ, zero, suc, ◌+◌, ◌/◌, ◌%◌, ◌≤◌, ◌<◌}
use mathlib.Core.Path.{◌≡◌, ap, ◌∙◌}
use mathlib.Core.Bool.{true, false}
use mathlib.Core.List.{List, [], ◌∷◌, ◌++◌}
use native.Mathlib.Omega.{arith}
use lib.ListN.{length, get_or, drop}
use lib.Seq.{sets, sets-eq}
use borrow.Author.Tests.{le-leb, lt-leb}
use Rattle.std.specs.Prelude.{Option, None, Some}
use Rattle.terms.proofs.TableLaws.{split}
use Rattle.chars.specs.Utf8.{is_scalar, encode, encoded}

module _ (c : ℕ) where
  pub encode_one : c ≤ 0x7F → encode c ≡ c ∷ []
  unfolding encode
  encode_one h = rw (le-leb c 0x7F h)

  pub encode_two : 0x7F < c → c ≤ 0x7FF → encode c ≡ (0xC0 + c / 64) ∷ (0x80 + c % 64) ∷ []
  unfolding encode
  encode_two g h = rw (lt-leb c 0x7F g, le-leb c 0x7FF h)

  pub encode_three : 0x7FF < c → c ≤ 0xFFFF → encode c ≡ (0xE0 + c / 4096) ∷ (0x80 + c / 64 % 64) ∷ (0x80 + c % 64) ∷ []
  unfolding encode
  encode_three g h = rw (lt-leb c 0x7F (omega arith), lt-leb c 0x7FF g, le-leb c 0xFFFF h)

  pub encode_four : 0xFFFF < c → encode c ≡ (0xF0 + c / 262144) ∷ (0x80 + c / 4096 % 64) ∷ (0x80 + c / 64 % 64) ∷ (0x80 + c % 64) ∷ []
  unfolding encode
  encode_four g = rw (lt-leb c 0x7F (omega arith), lt-leb c 0x7FF (omega arith), lt-leb c 0xFFFF g)

  -- how many they are
  pub size_one : c ≤ 0x7F → length (encode c) ≡ 1
  size_one h = ap length (encode_one h)

  pub size_two : 0x7F < c → c ≤ 0x7FF → length (encode c) ≡ 2
  size_two g h = ap length (encode_two g h)

  pub size_three : 0x7FF < c → c ≤ 0xFFFF → length (encode c) ≡ 3
  size_three g h = ap length (encode_three g h)

  pub size_four : 0xFFFF < c → length (encode c) ≡ 4
  size_four g = ap length (encode_four g)

  pub encode_most : length (encode c) ≤ 4
  encode_most =
      split 0x7F c (λ h. omega (arith, size_one h)) (λ g.
      split 0x7FF c (λ h. omega (arith, size_two g h)) (λ f.
      split 0xFFFF c (λ h. omega (arith, size_three f h)) (λ e. omega (arith, size_four e))))

  -- every byte behind the first is 0x80 or more
  abbrev Tails : List ℕ → Type 0
  Tails [] = Unit {0}
  Tails (x ∷ xs) = (0x80 ≤ x) × Tails xs

  tails_at : (xs : List ℕ) (k : ℕ) → Tails xs → k < length xs → 0x80 ≤ get_or xs k 0
  tails_at [] k t l = absurd (omega arith)
  tails_at (x ∷ xs) zero t l = t.0
  tails_at (x ∷ xs) (suc k) t l = tails_at xs k t.1 (omega arith)

  behind : (x : ℕ) (xs : List ℕ) → encode c ≡ x ∷ xs → Tails xs → (k : ℕ) → 0 < k → k < length (encode c) → 0x80 ≤ get_or (encode c) k 0
  behind x xs e t zero z l = absurd (omega arith)
  behind x xs e t (suc k) z l = rw e (tails_at xs k t (omega (arith, ap length e)))

  pub encode_tails : (k : ℕ) → 0 < k → k < length (encode c) → 0x80 ≤ get_or (encode c) k 0
  encode_tails =
      split 0x7F c (λ h. behind _ _ (encode_one h) tt) (λ g.
      split 0x7FF c (λ h. behind _ _ (encode_two g h) (omega arith, tt)) (λ f.
      split 0xFFFF c (λ h. behind _ _ (encode_three f h) (omega arith, (omega arith, tt)))
      (λ e. behind _ _ (encode_four e) (omega arith, (omega arith, (omega arith, tt))))))

  module _ (b : List ℕ) where
    -- no such character
    pub encoded_none : is_scalar c ≡ false → (None, b) ≡ encoded c b
    unfolding encoded
    encoded_none h = rw h

    module _ (yes : is_scalar c ≡ true) where
      -- no room
      pub encoded_short : length b < length (encode c) → (None, b) ≡ encoded c b
      unfolding encoded
      encoded_short h = rw (yes, lt-leb _ _ h)

      -- the bytes vs, stored one by one
      pub encoded_by : (vs : List ℕ) → encode c ≡ vs → length (encode c) ≤ length b → (Some (length (encode c)), sets b 0 vs) ≡ encoded c b
      unfolding encoded
      encoded_by vs e h =
          rw (yes, le-leb _ _ h, e) (λ i. (Some (length vs), front i))
        where
          front : sets b 0 vs ≡ vs ++ drop (length vs) b
          front =
              let k : 0 + length vs ≡ length vs = omega arith in
              let l : 0 + length vs ≤ length b = omega (arith, ap length e) in
              sets-eq vs b 0 l ∙ rw k

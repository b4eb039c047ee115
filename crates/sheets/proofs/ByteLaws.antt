-- What the search for a byte needs: bytes that are passed over, one by one and sixteen at a time.
use Rattle.std.specs.Prelude.{Some, None, Option}
use Rattle.std.specs.List.{position_or_len}
use Rattle.std.proofs.lemmas.List.Sums.{prefix_len-le-length, fails_before_first, passes_at_first}
use Rattle.std.proofs.lemmas.List.{get_or-drop, drop-drop, length-drop}
use Prim.Native.Nat.{ℕ, ◌+◌, ◌-◌, ◌≤◌, ◌<◌}
use mathlib.Core.Path.{◌≡◌, refl, sym, ◌∙◌, ap}
use mathlib.Core.Bool.{Bool, true, false, not, ◌||◌}
use mathlib.Core.List.{List}
use mathlib.Core.Logic.{◌⊎◌, inl, inr}
use native.Mathlib.Nat.{eq-or-lt_of_le}
use native.Mathlib.Omega.{arith}
use lib.ListN.{length, get_or, take, drop}
use lib.Seq.{get_or-take}
use lib.Dec.{eqb, ltb}
use borrow.Author.Tests.{ltb-true, ltb-false}
use Rattle.terms.proofs.FirstLaws.{first_skip}
use Rattle.terms.proofs.TestLaws.{clash}
use Rattle.terms.specs.Terms.{first}
use Rattle.sheets.specs.inner.Bytes.{holds, byte_from, Rest}
use Rattle.sheets.specs.inner.Found.{before}
use Rattle.sheets.proofs.FoundLaws.{index_found, end_reached, found_here, found_none}

module _ (bs : List ℕ) (x : ℕ) where
  -- no means that none of the first i bytes is x
  abbrev pub NoneOf : Bool → ℕ → Type 0
  NoneOf any i = any ≡ false → (j : ℕ) → j < i → holds bs x j ≡ false

  pub none_yet : NoneOf false 0
  none_yet e j l = absurd (omega arith)

  pub none_more : (any : Bool) (i : ℕ) → NoneOf any i → NoneOf (any || eqb (get_or bs i 0) x) (i + 1)
  unfolding holds
  none_more true i h e j l = absurd (clash true refl e)
  none_more false i h e j l = go (eq-or-lt_of_le (omega arith))
    where
      go : (j ≡ i) ⊎ (j < i) → eqb (get_or bs j 0) x ≡ false
      go (inl m) = rw m e
      go (inr m) = h refl j m

-- the loop of `skip`
pub rest_start : (bs : List ℕ) (x : ℕ) → Rest bs x bs
rest_start bs x =
    let z : length bs - length bs ≡ 0 = omega arith in
    record { short = omega arith; tail = rw z; clean = λ j l. absurd (omega arith) }

module _ (bs : List ℕ) (x : ℕ) (rest : List ℕ) (r : Rest bs x rest) where
  rest_at : (i : ℕ) → get_or rest i 0 ≡ get_or bs (length bs - length rest + i) 0
  rest_at i = ap (λ (l : List ℕ). get_or l i 0) r.tail ∙ get_or-drop (length bs - length rest) bs i 0

  pub rest_more : (chunk tail : List ℕ) → chunk ≡ take 16 rest → tail ≡ drop 16 rest → length tail + 16 ≡ length rest
      → ((j : ℕ) → j < 16 → holds chunk x j ≡ false) → Rest bs x tail
  unfolding holds
  rest_more chunk tail c t l none = record {
    short = omega (arith, r.short);
    tail = t ∙ ap (drop 16) r.tail ∙ drop-drop 16 (length bs - length rest) bs ∙ ap (λ (n : ℕ). drop n bs) (sym more);
    clean = λ j m. go j m (ltb j (length bs - length rest)) refl;
  }
    where
      more : length bs - length tail ≡ length bs - length rest + 16
      more = omega (arith, r.short)

      go : (j : ℕ) → j < length bs - length tail → (b : Bool) → ltb j (length bs - length rest) ≡ b → eqb (get_or bs j 0) x ≡ false
      go j m true q = r.clean j (ltb-true j (length bs - length rest) q)
      go j m false q =
          let d = length bs - length rest in
          let from : d ≤ j = ltb-false j d q in
          let e : d + (j - d) ≡ j = omega arith in
          let here : get_or chunk (j - d) 0 ≡ get_or bs j 0 =
          ap (λ (s : List ℕ). get_or s (j - d) 0) c ∙ get_or-take 16 rest (j - d) 0 (omega (arith, more)) ∙ rest_at (j - d) ∙ ap (λ (i : ℕ). get_or bs i 0) e in
          rw (← here) (none (j - d) (omega (arith, more)))

-- the search goes on in the rest
module _ (bs : List ℕ) (x from : ℕ) (in-bytes : from ≤ length bs) (rest : List ℕ) (r : Rest (drop from bs) x rest) where
  abbrev start : ℕ
  start = length bs - length rest

  abbrev p : ℕ
  p = position_or_len (λ (b : ℕ). eqb b x) rest

  size : length (drop from bs) ≡ length bs - from
  size = length-drop from bs

  before_start : from + (length (drop from bs) - length rest) ≡ start
  before_start = omega (arith, size, r.short)

  entry : (i : ℕ) → get_or rest i 0 ≡ get_or bs (start + i) 0
  entry i =
      let e : from + (length (drop from bs) - length rest + i) ≡ start + i = omega (arith, before_start) in
      rest_at (drop from bs) x rest r i ∙ get_or-drop from bs (length (drop from bs) - length rest + i) 0 ∙ ap (λ (j : ℕ). get_or bs j 0) e

  skipped : byte_from bs from x ≡ first (holds bs x) start (length bs - start)
  unfolding holds
  skipped =
      rw before_start at (first_skip (holds bs x) (length (drop from bs) - length rest) from (length bs) (omega (arith, size, r.short)) other)
    where
      other : (j : ℕ) → from ≤ j → j < from + (length (drop from bs) - length rest) → eqb (get_or bs j 0) x ≡ false
      other j a b =
          let e : from + (j - from) ≡ j = omega arith in
          let here : get_or (drop from bs) (j - from) 0 ≡ get_or bs j 0 = get_or-drop from bs (j - from) 0 ∙ ap (λ (i : ℕ). get_or bs i 0) e in
          rw (← here) (r.clean (j - from) (omega arith))

  at_first : p ≤ length rest → byte_from bs from x ≡ first (holds bs x) (start + p) (length bs - (start + p))
  unfolding holds
  at_first l = skipped ∙ first_skip (holds bs x) p start (length bs) (omega (arith, size, r.short)) other
    where
      other : (j : ℕ) → start ≤ j → j < start + p → eqb (get_or bs j 0) x ≡ false
      other j a b =
          let e : start + (j - start) ≡ j = omega arith in
          let here : get_or rest (j - start) 0 ≡ get_or bs j 0 = entry (j - start) ∙ ap (λ (i : ℕ). get_or bs i 0) e in
          rw (← here) (fails_before_first (λ (b : ℕ). eqb b x) rest (j - start) 0 (omega arith))

  pub rest_some : (at : ℕ) → Some at ≡ before (length rest) p → Some (start + at) ≡ before (length bs) (byte_from bs from x)
  unfolding holds
  rest_some at e =
      let f = index_found (length rest) p at e in
      let q : at ≡ p = f.0 in
      let l : p < length rest = omega (arith, f.1) in
      rw q
      (found_here (holds bs x) (length bs) (start + p) (byte_from bs from x) (at_first (omega arith)) (omega (arith, size, r.short))
      (rw entry at (passes_at_first (λ (b : ℕ). eqb b x) rest 0 l)))

  pub rest_none : ◌≡◌ {A = Option ℕ} None (before (length rest) p) → None ≡ before (length bs) (byte_from bs from x)
  rest_none e =
      let l : p ≤ length rest = prefix_len-le-length (λ (b : ℕ). not (eqb b x)) rest in
      let end : length rest ≤ p = end_reached (length rest) p e in
      found_none (holds bs x) (length bs) (start + p) (byte_from bs from x) (at_first l) (omega (arith, size, r.short))

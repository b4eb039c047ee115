-- The second walk of decoding: the copy of the bytes up to a mark, and what a turn adds as it is stored (`specs/inner/Writing.antt`).
use Prim.Native.Nat.{ℕ, suc, ◌≤◌, ◌<◌, ◌+◌, ◌-◌}
use mathlib.Core.Path.{◌≡◌, refl, ap, subst, ◌∙◌}
use mathlib.Core.Bool.{true, false}
use mathlib.Core.List.{List, [], ◌∷◌, ◌++◌, append-nil, append_assoc}
use native.Mathlib.Omega.{arith}
use Rattle.std.specs.Prelude.{Option, Some, unwrap_or}
use lib.ListN.{length, get_or, set, take, drop, length-drop, drop_of_length-le}
use lib.Seq.{paste, paste-zero, paste-suc, take-length, length-take-le, take_all, drop-drop, get_or-drop, sets-eq}
use borrow.Author.Tests.{le-leb}
use Rattle.terms.specs.Terms.{over, first}
use Rattle.terms.proofs.FirstLaws.{first_miss, first_hit, first_end, first_from}
use Rattle.answers.specs.declared.Place.{Place}
use Rattle.chars.specs.Utf8.{is_scalar, encode, encoded}
use Rattle.strings.specs.declared.More.TheVariants.{One, Whole}
use Rattle.strings.specs.Strings.{added}
use Rattle.strings.specs.inner.Writing.{marked, unmarked, copied, stored}

-- copying: k of the text is reached, and the buffer was b
module _ (s : List ℕ) (p : Place) (b : List ℕ) where
  pub record Copied (k : ℕ) (v : List ℕ) : Type 0 where
    pub begun : p.0 ≤ k
    pub inside : k - p.0 ≤ length s - p.0
    pub rest : unmarked s p ≡ first (marked s) k (length s - k) - p.0
    pub filled : v ≡ paste b 0 (drop p.0 s) (k - p.0)

  pub copied_none : Copied p.0 b
  unfolding unmarked
  copied_none =
      let z : p.0 - p.0 ≡ 0 = omega arith in
      record { begun = omega arith; inside = omega arith; rest = refl; filled = rw z (paste-zero b 0 (drop p.0 s)) }

  module _ (k : ℕ) (v : List ℕ) (c : Copied k v) where
    -- at a mark, or at the end
    ends : first (marked s) k (length s - k) ≡ k → (k - p.0, v) ≡ copied s p b
    unfolding copied
    ends e =
        let u : unmarked s p ≡ k - p.0 = c.rest ∙ rw e in
        let l : length (take (k - p.0) (drop p.0 s)) ≡ k - p.0 = length-take-le _ _ (rw length-drop c.inside) in
        let z : 0 + (k - p.0) ≡ k - p.0 = omega arith in
        let f : paste b 0 (drop p.0 s) (k - p.0) ≡ take (k - p.0) (drop p.0 s) ++ drop (k - p.0) b =
        subst (λ (j : ℕ). paste b 0 (drop p.0 s) (k - p.0) ≡ take (k - p.0) (drop p.0 s) ++ drop j b) z refl in
        rw (u, l, c.filled, f)

    pub copied_mark : k < length s → marked s k ≡ true → (k - p.0, v) ≡ copied s p b
    copied_mark l e = ends (first_hit (marked s) k (length s) l e)

    pub copied_end : length s ≤ k → (k - p.0, v) ≡ copied s p b
    copied_end l = ends (first_end (marked s) k (length s) l)

    -- past a byte that is none
    module _ (room : unmarked s p ≤ length b) (l : k < length s) (e : marked s k ≡ false) where
      on : unmarked s p ≡ first (marked s) (k + 1) (length s - (k + 1)) - p.0
      on = c.rest ∙ rw (first_miss (marked s) k (length s) l e)

      pub copied_next : k - p.0 < length b
      copied_next = omega (arith, room, on, first_from (marked s) (length s - (k + 1)) (k + 1), c.begun)

      pub copied_on : Copied (k + 1) (set v (k - p.0) (get_or s k 0))
      copied_on =
          let h : p.0 + (k - p.0) ≡ k = omega (arith, c.begun) in
          let i : suc (k - p.0) ≡ k + 1 - p.0 = omega (arith, c.begun) in
          let j : k - p.0 < length (drop p.0 s) = rw length-drop (omega (arith, c.begun)) in
          let g : get_or (drop p.0 s) (k - p.0) 0 ≡ get_or s k 0 = get_or-drop p.0 s (k - p.0) 0 ∙ rw h in
          let z : 0 + (k - p.0) ≡ k - p.0 = omega arith in
          let more : set (paste b 0 (drop p.0 s) (k - p.0)) (0 + (k - p.0)) (get_or (drop p.0 s) (k - p.0) 0) ≡ paste b 0 (drop p.0 s) (k + 1 - p.0) =
          paste-suc b 0 (drop p.0 s) (k - p.0) 0 (omega (arith, copied_next)) j ∙ rw i in
          record {
            begun = omega (arith, c.begun);
            inside = omega (arith, c.begun);
            rest = on;
            filled = rw (c.filled, ← g)
                (subst (λ m. set (paste b 0 (drop p.0 s) (k - p.0)) m (get_or (drop p.0 s) (k - p.0) 0) ≡ paste b 0 (drop p.0 s) (k + 1 - p.0)) z more);
          }

-- storing what a turn adds
module _ (v : List ℕ) where
  pub stored_one : (b : ℕ) → 0 < length v → (1, set v 0 b) ≡ stored (One b) v
  unfolding stored added
  stored_one b l = ap (λ (x : List ℕ). (1, x)) (sets-eq (b ∷ []) v 0 (omega arith))

  pub stored_whole : (c : ℕ) → is_scalar c ≡ true → length (encode c) ≤ length v → (r : Option ℕ) (ys : List ℕ)
      → (r, ys) ≡ encoded c v → (unwrap_or r 0, ys) ≡ stored (Whole c) v
  unfolding encoded stored added
  stored_whole c y l r ys e =
      let f : ◌≡◌ {A = Option ℕ × List ℕ} (r, ys) (Some (length (encode c)), encode c ++ drop (length (encode c)) v) = e ∙ rw (y, le-leb _ _ l) in
      ap (λ (x : Option ℕ × List ℕ). (unwrap_or x.0 0, x.1)) f

-- what is put at the front of the rest of a buffer, from n on
pub over_rest : (n : ℕ) (v xs : List ℕ)
    → take n v ++ (over xs (take (length v - n) (drop n v)) ++ drop (length v - n) (drop n v)) ≡ paste v n xs (length xs)
over_rest n v xs =
    let long : length (drop n v) ≡ length v - n = length-drop n v in
    let all : take (length v - n) (drop n v) ≡ drop n v = take_all (length v - n) (drop n v) (omega arith) in
    let none : drop (length v - n) (drop n v) ≡ [] = drop_of_length-le (drop n v) (let k : length (drop n v) ≤ length v - n = omega arith in k) in
    rw (all, none, append-nil, drop-drop, take-length, append_assoc)

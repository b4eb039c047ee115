-- The parts' turns, and the bytes that a part passes over at once.
use Rattle.std.specs.Prelude.{None, Some, Result, Ok, Err, if◌then◌else◌}
use Prim.Native.Nat.{ℕ, ◌≤◌, ◌<◌}
use mathlib.Core.Path.{◌≡◌, refl, sym, ap, ◌∙◌}
use mathlib.Core.Bool.{Bool, true, false, not, ◌||◌}
use mathlib.Core.List.{List}
use native.Mathlib.Omega.{arith}
use lib.Dec.{leb, eqb}
use borrow.Author.Tests.{le-leb, lt-leb, leb-true, leb-false, eqb-true}
use Rattle.terms.specs.Terms.{said, within}
use Rattle.terms.proofs.TestLaws.{clash}
use Rattle.terms.proofs.BelowLaws.{all_below}
use Rattle.answers.specs.declared.Place.{Place}
use Rattle.answers.specs.declared.Position.{Position}
use Rattle.answers.specs.declared.Ill.{Ill as Sequence}
use Rattle.answers.specs.declared.Refusal.{Refusal}
use Rattle.chars.specs.Utf8.{Read}
use Rattle.chars.specs.Utf8.{byte_at, on_by, char_at}
use Rattle.chars.specs.View.{chars_from}
use Rattle.chars.specs.inner.Runs.{in_set, run_end}
use Rattle.chars.proofs.Utf8Laws.{ill_at_lem}
use Rattle.chars.proofs.ViewLaws.{chars_end, chars_ill, chars_char}
use Rattle.chars.proofs.RunLaws.{run_strides_plain, each_of_set}
use Rattle.parts.specs.declared.Letter.{Letter}
use Rattle.parts.specs.declared.Part.{Part}
use Rattle.parts.specs.Parts.{letters, letter_of, empty, bad, step_by, ended_by, stepped, parts_from}
use Rattle.parts.specs.inner.Runs.{staying}

-- any other character is bad in every part
pub other_bad : (q : Position) (c : ℕ) (part : Part) → step_by q c part Letter.Other ≡ bad q c
unfolding step_by
other_bad q c Part.First = refl
other_bad q c Part.Next = refl
other_bad q c Part.Digits = refl
other_bad q c Part.Upper = refl
other_bad q c Part.Lower = refl

module _ (q : Position) (e : Place) (part : Part) (s : List ℕ) (p : Place) where
  -- an ill-formed sequence is found where it begins
  ill_place : (i : Sequence) → char_at s p ≡ Err i → i.at.0 ≡ p.0
  ill_place i g = ap (λ (k : Sequence). k.at.0) (ill_at_lem s p i g)

  -- at the span's end, and behind it
  pub parts_ended : e.0 ≤ p.0 → parts_from q e part (chars_from s p) ≡ ended_by q part
  unfolding parts_from
  parts_ended h = go (char_at s p) refl
    where
      go : (r : Read) → char_at s p ≡ r → parts_from q e part (chars_from s p) ≡ ended_by q part
      go (Ok None) g = rw (chars_end s p g)
      go (Err i) g = rw (chars_ill s p i g, ill_place i g, le-leb e.0 p.0 h)
      go (Ok (Some (c, n))) g = rw (chars_char s p c n g, le-leb e.0 p.0 h)

  pub parts_end : char_at s p ≡ Ok None → parts_from q e part (chars_from s p) ≡ ended_by q part
  unfolding parts_from
  parts_end g = rw (chars_end s p g)

  module _ (before : p.0 < e.0) where
    pub parts_ill : (i : Sequence) → char_at s p ≡ Err i → parts_from q e part (chars_from s p) ≡ Err (Refusal.IllFormed i)
    unfolding parts_from
    parts_ill i g = rw (chars_ill s p i g, ill_place i g, lt-leb e.0 p.0 before)

    pub parts_char : (c : ℕ) (n : Place) → char_at s p ≡ Ok (Some (c, n))
        → parts_from q e part (chars_from s p) ≡ stepped (step_by q c part (letter_of c)) (λ next. parts_from q e next (chars_from s n))
    unfolding parts_from
    parts_char c n g = rw (chars_char s p c n g, lt-leb e.0 p.0 before)

    module _ (c : ℕ) (n : Place) (g : char_at s p ≡ Ok (Some (c, n))) where
      pub parts_on : (onward : Part) → step_by q c part (letter_of c) ≡ Ok onward → parts_from q e part (chars_from s p) ≡ parts_from q e onward (chars_from s n)
      unfolding stepped
      parts_on onward h = parts_char c n g ∙ rw h

      pub parts_empty : step_by q c part (letter_of c) ≡ empty q → parts_from q e part (chars_from s p) ≡ Err (Refusal.IdPartEmpty q)
      unfolding stepped
      parts_empty h = parts_char c n g ∙ rw h

      pub parts_bad : step_by q c part (letter_of c) ≡ bad q c → parts_from q e part (chars_from s p) ≡ Err (Refusal.InvalidCharInId q c)
      unfolding stepped
      parts_bad h = parts_char c n g ∙ rw h

-- parts told apart by a number
number_of : Part → ℕ
number_of Part.First = 0
number_of Part.Next = 1
number_of Part.Digits = 2
number_of Part.Upper = 3
number_of Part.Lower = 4

part_of : ℕ → Part
part_of n =
    if eqb n 0 then Part.First
    else (if eqb n 1 then Part.Next
    else (if eqb n 2 then Part.Digits
    else (if eqb n 3 then Part.Upper
    else Part.Lower)))

part_back : (a : Part) → part_of (number_of a) ≡ a
unfolding part_of number_of
part_back Part.First = refl
part_back Part.Next = refl
part_back Part.Digits = refl
part_back Part.Upper = refl
part_back Part.Lower = refl

-- a step that goes on in the same part
stays : Part → Result Part Refusal → Bool
stays a (Ok b) = eqb (number_of a) (number_of b)
stays a (Err f) = false

stays_on : (a : Part) (x : Result Part Refusal) → stays a x ≡ true → x ≡ Ok a
unfolding stays
stays_on a (Ok b) h = ap Ok (sym (part_back b) ∙ ap part_of (sym (eqb-true (number_of a) (number_of b) h)) ∙ part_back a)
stays_on a (Err f) h = absurd (clash false h refl)

-- what the bytes of a part's set do, which is computed over all of them
all_stay : (q : Position) (a : Part) → all_below 128 (λ b. not (in_set (staying a) b) || stays a (step_by q b a (letter_of b))) ≡ true
unfolding all_below in_set staying stays number_of step_by letter_of letters said within
all_stay q Part.First = refl
all_stay q Part.Next = refl
all_stay q Part.Digits = refl
all_stay q Part.Upper = refl
all_stay q Part.Lower = refl

-- so a part passes over them at once; behind the span's end nothing changes either
pub part_passes : (q : Position) (e : Place) (part : Part) (s : List ℕ) (p : Place)
    → parts_from q e part (chars_from s p) ≡ parts_from q e part (chars_from s (run_end s (staying part) p))
part_passes q e part s p = run_strides_plain s (staying part) p (λ (r : Place). parts_from q e part (chars_from s r)) one
  where
    one : (r : Place) → in_set (staying part) (byte_at s r) ≡ true → char_at s r ≡ Ok (Some (byte_at s r, on_by 1 r))
        → parts_from q e part (chars_from s r) ≡ parts_from q e part (chars_from s (on_by 1 r))
    one r m g = go (leb e.0 r.0) refl
      where
        go : (t : Bool) → leb e.0 r.0 ≡ t → parts_from q e part (chars_from s r) ≡ parts_from q e part (chars_from s (on_by 1 r))
        go true h =
            let l = leb-true e.0 r.0 h in
            parts_ended q e part s r l ∙ sym (parts_ended q e part s (on_by 1 r) (omega arith))
        go false h =
            parts_on q e part s r (leb-false e.0 r.0 h) (byte_at s r) (on_by 1 r) g part
            (stays_on part _ (each_of_set (staying part) (λ (b : ℕ). stays part (step_by q b part (letter_of b))) (all_stay q part) _ m))

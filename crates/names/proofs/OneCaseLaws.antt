-- An identifier whose letters are of one case is accepted where each byte may stand behind the one before it.
use Rattle.std.specs.Prelude.{Ok, if◌then◌else◌}
use Rattle.std.proofs.Common.{◌≡◌, ℕ, zero, suc, ◌+◌, ◌-◌, ◌%◌, ◌^◌, ◌<◌, ◌≤◌, Bool, true, false, not, ◌&&◌, ◌||◌, eqb, ltb, ◌⊎◌, List, [], length, get_or, sym, refl, ap, ◌∙◌, inl, inr, arith, ltb-false, ltb-true, lt-ltb, eq-eqb, ne_eqb, eqb-true}
use borrow.Author.Tests.{eqb-false, not-true, not-false}
use Rattle.terms.specs.Terms.{said, within}
use Rattle.terms.proofs.TestLaws.{and_both, and_lacks, or_either, within_true, within_yes, within_above, within_below, clash}
use Rattle.terms.proofs.TableLaws.{in_match, word, is_key, is_keys, up, down}
use Rattle.answers.specs.declared.Position.{Position}
use Rattle.answers.specs.Places.{place}
use Rattle.answers.specs.Caps.{accepted, cap}
use Rattle.chars.specs.Utf8.{byte_at}
use Rattle.chars.specs.View.{chars_from}
use Rattle.chars.proofs.Utf8Laws.{ascii_at_lem}
use Rattle.parts.specs.declared.Letter.{Letter}
use Rattle.parts.specs.declared.Part.{Part}
use Rattle.parts.specs.Parts.{letters, letter_of, step_by, ended_by, parts_from}
use Rattle.names.specs.inner.OneCase.{case_of, follows, Follow}
use Rattle.parts.proofs.PartLaws.{parts_ended, parts_on}

-- the two cases: where their letters begin, what a letter is, and the part that it stands in
low_of : Bool → ℕ
low_of true = 0x41
low_of false = 0x61

own_of : Bool → Letter
own_of true = Letter.Upper
own_of false = Letter.Lower

mine : Bool → Part
mine true = Part.Upper
mine false = Part.Lower

own_letter : (upper : Bool) (b : ℕ) → low_of upper ≤ b → b ≤ low_of upper + 25 → letter_of b ≡ own_of upper
unfolding low_of own_of letter_of letters word is_key is_keys up down
own_letter true b f g = in_match [] 0x41 0x5A b tt f g letters Letter.Other _ refl
own_letter false b f g = in_match [] 0x61 0x7A b tt f g letters Letter.Other _ refl

digit_letter : (b : ℕ) → 0x30 ≤ b → b ≤ 0x39 → letter_of b ≡ Letter.Digit
unfolding letter_of letters word is_key is_keys up down
digit_letter b f g = in_match [] 0x30 0x39 b tt f g letters Letter.Other _ refl

dash_letter : (b : ℕ) → b ≡ 0x2D → letter_of b ≡ Letter.Dash
unfolding letter_of letters said within
dash_letter b e = rw e

-- the parts in which the walk stands behind the first letter; one of them is behind a `-`
inside : Bool → Part → Bool
inside upper Part.First = false
inside upper Part.Next = true
inside upper Part.Digits = true
inside upper Part.Upper = upper
inside upper Part.Lower = not upper

is_next : Part → Bool
is_next Part.First = false
is_next Part.Next = true
is_next Part.Digits = false
is_next Part.Upper = false
is_next Part.Lower = false

behind_digit : Part → Part
behind_digit Part.First = Part.First
behind_digit Part.Next = Part.Digits
behind_digit Part.Digits = Part.Digits
behind_digit Part.Upper = Part.Upper
behind_digit Part.Lower = Part.Lower

mine_inside : (upper : Bool) → inside upper (mine upper) ≡ true
unfolding inside mine
mine_inside true = refl
mine_inside false = refl

mine_not_next : (upper : Bool) → is_next (mine upper) ≡ false
unfolding is_next mine
mine_not_next true = refl
mine_not_next false = refl

-- what a character c does, where the span starts at q
module _ (q : Position) (c : ℕ) where
  first_on : (upper : Bool) → step_by q c Part.First (own_of upper) ≡ Ok (mine upper)
  unfolding step_by own_of mine
  first_on true = refl
  first_on false = refl

  own_on : (upper : Bool) (part : Part) → inside upper part ≡ true → step_by q c part (own_of upper) ≡ Ok (mine upper)
  unfolding inside step_by own_of mine
  own_on upper Part.First h = absurd (clash false h refl)
  own_on true Part.Next h = refl
  own_on false Part.Next h = refl
  own_on true Part.Digits h = refl
  own_on false Part.Digits h = refl
  own_on true Part.Upper h = refl
  own_on false Part.Upper h = absurd (clash false h refl)
  own_on true Part.Lower h = absurd (clash false h refl)
  own_on false Part.Lower h = refl

  digit_on : (upper : Bool) (part : Part) → inside upper part ≡ true
      → (step_by q c part Letter.Digit ≡ Ok (behind_digit part)) × ((inside upper (behind_digit part) ≡ true) × (is_next (behind_digit part) ≡ false))
  unfolding inside step_by behind_digit is_next
  digit_on upper Part.First h = absurd (clash false h refl)
  digit_on upper Part.Next h = (refl, (refl, refl))
  digit_on upper Part.Digits h = (refl, (refl, refl))
  digit_on upper Part.Upper h = (refl, (h, refl))
  digit_on upper Part.Lower h = (refl, (h, refl))

  dash_on : (upper : Bool) (part : Part) → inside upper part ≡ true → is_next part ≡ false → step_by q c part Letter.Dash ≡ Ok Part.Next
  unfolding inside step_by is_next
  dash_on upper Part.First h n = absurd (clash false h refl)
  dash_on upper Part.Next h n = absurd (clash true refl n)
  dash_on upper Part.Digits h n = refl
  dash_on upper Part.Upper h n = refl
  dash_on upper Part.Lower h n = refl

ends_inside : (q : Position) (upper : Bool) (part : Part) → inside upper part ≡ true → is_next part ≡ false → ended_by q part ≡ accepted
unfolding inside ended_by is_next
ends_inside q upper Part.First h n = absurd (clash false h refl)
ends_inside q upper Part.Next h n = absurd (clash true refl n)
ends_inside q upper Part.Digits h n = refl
ends_inside q upper Part.Upper h n = refl
ends_inside q upper Part.Lower h n = refl

-- what a byte that may stand behind p is
Kinds : Bool → ℕ → ℕ → Type 0
Kinds upper p b = ((low_of upper ≤ b) × (b ≤ low_of upper + 25)) ⊎ (((0x30 ≤ b) × (b ≤ 0x39)) ⊎ ((b ≡ 0x2D) × (eqb p 0x2D ≡ false)))

kinds : (upper : Bool) (p b : ℕ) → follows (low_of upper) p b ≡ true → Kinds upper p b
unfolding follows Kinds
kinds upper p b e = one (or_either (within (low_of upper) (low_of upper + 25) b) _ e)
  where
    two : ((within 0x30 0x39 b ≡ true) ⊎ ((eqb b 0x2D && not (eqb p 0x2D)) ≡ true)) → ((0x30 ≤ b) × (b ≤ 0x39)) ⊎ ((b ≡ 0x2D) × (eqb p 0x2D ≡ false))
    two (inl h) = inl (within_true 0x30 0x39 b h)
    two (inr h) = let both = and_both (eqb b 0x2D) (not (eqb p 0x2D)) h in inr (eqb-true b 0x2D both.0, not-true _ both.1)

    one : ((within (low_of upper) (low_of upper + 25) b ≡ true) ⊎ ((within 0x30 0x39 b || (eqb b 0x2D && not (eqb p 0x2D))) ≡ true)) → Kinds upper p b
    one (inl h) = inl (within_true (low_of upper) (low_of upper + 25) b h)
    one (inr h) = inr (two (or_either (within 0x30 0x39 b) _ h))

low_small : (upper : Bool) → (0x41 ≤ low_of upper) × (low_of upper ≤ 0x61)
unfolding low_of
low_small true = (omega arith, omega arith)
low_small false = (omega arith, omega arith)

module _ (q : Position) (upper : Bool) (s : List ℕ) (from e : ℕ) (inText : e ≤ length s) (inCap : e ≤ cap) where
  -- one byte that is a character by itself, and what it does
  turn : (part next : Part) (i : ℕ) → i < e → get_or s i 0 < 0x80 → step_by q (get_or s i 0) part (letter_of (get_or s i 0)) ≡ Ok next
      → parts_from q (place e) part (chars_from s (place i)) ≡ parts_from q (place e) next (chars_from s (place (i + 1)))
  unfolding byte_at
  turn part next i h small on =
      parts_on q (place e) part s (place i) h (get_or s i 0) (place (i + 1)) (ascii_at_lem s (place i) (omega arith) (omega arith) small) next on

  -- from the byte behind k on
  walk : Follow s (low_of upper) from e → ((k : ℕ) → k + 1 ≡ e → eqb (get_or s k 0) 0x2D ≡ false) → (n k : ℕ) → k + 1 + n ≡ e → from ≤ k → (part : Part)
      → inside upper part ≡ true → is_next part ≡ eqb (get_or s k 0) 0x2D → parts_from q (place e) part (chars_from s (place (k + 1))) ≡ accepted
  unfolding Kinds inside is_next
  walk f last zero k t a part i d =
      parts_ended q (place e) part s (place (k + 1)) (omega arith) ∙ ends_inside q upper part i (d ∙ last k (omega arith))
  walk f last (suc n) k t a part i d = go (kinds upper (get_or s k 0) b (f k a (omega arith))) (walk f last n (k + 1) (omega arith) (omega arith))
    where
      b : ℕ
      b = get_or s (k + 1) 0

      go : Kinds upper (get_or s k 0) b
          → ((next : Part) → inside upper next ≡ true → is_next next ≡ eqb b 0x2D → parts_from q (place e) next (chars_from s (place (k + 1 + 1))) ≡ accepted)
          → parts_from q (place e) part (chars_from s (place (k + 1))) ≡ accepted
      go (inl (l, h)) ih =
          let z = low_small upper in
          turn part (mine upper) (k + 1) (omega arith) (omega arith) (ap (step_by q b part) (own_letter upper b l h) ∙ own_on q b upper part i)
          ∙ ih (mine upper) (mine_inside upper) (mine_not_next upper ∙ sym (ne_eqb b 0x2D (λ e. omega arith)))
      go (inr (inl (l, h))) ih =
          let on = digit_on q b upper part i in
          turn part (behind_digit part) (k + 1) (omega arith) (omega arith) (ap (step_by q b part) (digit_letter b l h) ∙ on.0)
          ∙ ih (behind_digit part) on.1.0 (on.1.1 ∙ sym (ne_eqb b 0x2D (λ e. omega arith)))
      go (inr (inr (dash, free))) ih =
          turn part Part.Next (k + 1) (omega arith) (omega arith) (ap (step_by q b part) (dash_letter b dash) ∙ dash_on q b upper part i (d ∙ free))
          ∙ ih Part.Next refl (sym (eq-eqb b 0x2D dash))

case_low : (b : ℕ) → case_of b ≡ low_of (ltb b 0x61)
unfolding case_of low_of
case_low b = go (ltb b 0x61)
  where
    go : (t : Bool) → (if t then 0x41 else 0x61) ≡ low_of t
    go true = refl
    go false = refl

pub case_small : (b : ℕ) → case_of b ≤ 0x61
case_small b = rw (case_low b) (low_small (ltb b 0x61)).1

-- THE LAW: a letter of its case, then bytes that may each follow the one before, and no `-` at the end: the parts are accepted
pub one_case_accepted : (q : Position) (s : List ℕ) (from e : ℕ) → from < e → e ≤ length s → e ≤ cap → (get_or s (e - 1) 0 ≡ 0x2D → ⊥)
    → within (case_of (get_or s from 0)) (case_of (get_or s from 0) + 25) (get_or s from 0) ≡ true → Follow s (case_of (get_or s from 0)) from e
    → parts_from q (place e) Part.First (chars_from s (place from)) ≡ accepted
one_case_accepted q s from e h t c dashless own f =
    turn q upper s from e t c Part.First (mine upper) from h (omega (arith, w, low_small upper))
    (ap (step_by q b Part.First) (own_letter upper b w.0 w.1) ∙ first_on q b upper)
    ∙ walk q upper s from e t c (λ k a g. rw (← case_low b) (f k a g)) last (e - (from + 1)) from (omega arith) (omega arith) (mine upper) (mine_inside upper)
    (mine_not_next upper ∙ sym (ne_eqb b 0x2D (λ z. omega (arith, w, low_small upper))))
  where
    last : (k : ℕ) → k + 1 ≡ e → eqb (get_or s k 0) 0x2D ≡ false
    last k z = ne_eqb (get_or s k 0) 0x2D (λ d. dashless (ap (λ (i : ℕ). get_or s i 0) (before k z) ∙ d))
      where
        before : (k : ℕ) → k + 1 ≡ e → e - 1 ≡ k
        before k z = omega arith

    b : ℕ
    b = get_or s from 0

    upper : Bool
    upper = ltb b 0x61

    w : (low_of upper ≤ b) × (b ≤ low_of upper + 25)
    w = within_true (low_of upper) (low_of upper + 25) b (rw (← case_low b) own)

-- a letter by a difference that wraps
pub wrapped : (low b r : ℕ) → low ≤ 0x61 → r < 256 → (r + low) % 2 ^ 8 ≡ b → ltb r 26 ≡ within low (low + 25) b
wrapped low b r l h e = go (ltb r 26) refl (ltb (r + low) 256) refl
  where
    go : (t : Bool) → ltb r 26 ≡ t → (u : Bool) → ltb (r + low) 256 ≡ u → t ≡ within low (low + 25) b
    go true p u g = let z = ltb-true r 26 p in sym (within_yes low (low + 25) b (omega arith) (omega arith))
    go false p true g = let z = ltb-false r 26 p in let y = ltb-true (r + low) 256 g in sym (within_above low (low + 25) b (omega arith))
    go false p false g = let y = ltb-false (r + low) 256 g in sym (within_below low (low + 25) b (omega arith))

-- of the n bytes from `at` on, what stands behind each of the first i may follow it
abbrev pub Until : List ℕ → ℕ → ℕ → ℕ → ℕ → Type 0
Until s low at n i = (k : ℕ) → at ≤ k → k + 1 < at + n → k < at + i → follows low (get_or s k 0) (get_or s (k + 1) 0) ≡ true

module _ (s : List ℕ) (low at n : ℕ) where
  pub until_none : Until s low at n 0
  until_none k a h l = absurd (omega arith)

  -- what stands behind byte i may, or is none of the n
  pub until_more : (i : ℕ) (any : Bool) → (any ≡ false → Until s low at n i)
      → (any || (ltb (i + 1) n && not (follows low (get_or s (at + i) 0) (get_or s (at + i + 1) 0)))) ≡ false → Until s low at n (i + 1)
  until_more i true before e k a h l = absurd (clash true refl e)
  until_more i false before e k a h l = go (eqb k (at + i)) refl
    where
      next : Bool
      next = follows low (get_or s (at + i) 0) (get_or s (at + i + 1) 0)

      go : (v : Bool) → eqb k (at + i) ≡ v → follows low (get_or s k 0) (get_or s (k + 1) 0) ≡ true
      go true v =
          let q : k ≡ at + i = eqb-true k (at + i) v in
          rw q (not-false next (and_lacks (ltb (i + 1) n) (not next) e (lt-ltb (i + 1) n (omega arith))))
      go false v = before refl k a h (omega (arith, eqb-false k (at + i) v))

pub until_all : (s : List ℕ) (low at n i : ℕ) → n ≤ i + 1 → Until s low at n i → Follow s low at (at + n)
until_all s low at n i l f k a h = f k a h (omega arith)

-- one byte follows nothing, and bytes go on from the last of those before
pub follow_one : (s : List ℕ) (low from : ℕ) → Follow s low from (from + 1)
follow_one s low from k a h = absurd (omega arith)

pub follow_on : (s : List ℕ) (low from at n end : ℕ) → at + n ≡ end → Follow s low from (at + 1) → Follow s low at (at + n) → Follow s low from end
follow_on s low from at n end e f g k a h = go (ltb (k + 1) (at + 1)) refl
  where
    go : (t : Bool) → ltb (k + 1) (at + 1) ≡ t → follows low (get_or s k 0) (get_or s (k + 1) 0) ≡ true
    go true t = f k a (ltb-true (k + 1) (at + 1) t)
    go false t = let z : at + 1 ≤ k + 1 = ltb-false (k + 1) (at + 1) t in g k (omega arith) (omega arith)

pub follow_two : (s : List ℕ) (low k : ℕ) → follows low (get_or s k 0) (get_or s (k + 1) 0) ≡ true → Follow s low k (k + 2)
follow_two s low k h j a b = let j_is : j ≡ k = omega arith in rw j_is h

-- One turn: what stands at a place, what holds of what a character does there, and how the walk comes on by it (`specs/inner/Walking.antt`).
use Rattle.std.specs.Prelude.{if◌then◌else◌}
use Prim.Native.Nat.{ℕ, ◌≤◌, ◌<◌, ◌+◌, ◌-◌, ◌*◌}
use mathlib.Core.Path.{◌≡◌, refl, ◌∙◌}
use mathlib.Core.Bool.{Bool, true, false, ◌||◌}
use mathlib.Core.List.{List, [], ◌++◌, append-nil, append_assoc}
use native.Mathlib.Omega.{arith}
use lib.Dec.{leb, ltb, eqb}
use lib.ListN.{length, length-append}
use Rattle.answers.specs.declared.Place.{Place}
use Rattle.answers.specs.declared.Refusal.{Refusal}
use Rattle.chars.specs.Utf8.{Read, byte_at, on_by, is_scalar, encode}
use Rattle.chars.specs.inner.Single.{single_at}
use Rattle.chars.proofs.SingleLaws.{single_stands}
use Rattle.chars.specs.View.{folded_at, folded_from}
use Rattle.chars.specs.Hex.{to_hex}
use Rattle.std.specs.Prelude.{Option, None, Some, Result, Ok, Err}
use Rattle.std.specs.Option.{option_map_or}
use Rattle.chars.proofs.Utf8Laws.{Onward, scalar_low}
use Rattle.chars.proofs.ViewLaws.{folded_end, folded_ill, folded_char, folded_onward, folded_scalar}
use Rattle.chars.proofs.EncodeLaws.{encode_one, encode_most}
use Rattle.chars.proofs.RoundTrip.{folded_width}
use Rattle.strings.specs.declared.Digits.{Digits}
use Rattle.strings.specs.declared.Inside.{Inside}
use Rattle.strings.specs.declared.Inside.TheVariants.{Plain, Escape, Half, Brace, First, Number}
use Rattle.strings.specs.declared.More.{More}
use Rattle.strings.specs.declared.More.TheVariants.{One, Whole}
use Rattle.strings.specs.declared.Turn.{Turn}
use Rattle.strings.specs.declared.Turn.TheVariants.{On, Close}
use Rattle.strings.specs.declared.Element.{Element}
use Rattle.strings.specs.declared.Element.TheVariants.{Adds, Close as Closes}
use Rattle.strings.specs.Strings.{simple_of, plain_turn, escape_turn, half_turn, brace_turn, first_turn, digit_turn, end_turn, number_turn, turn_of}
use Rattle.strings.proofs.DigitLaws.{hex_low, simple_low}
use Rattle.strings.specs.Strings.{added, added_of, bytes, refused, gather_on, gather}
use Rattle.strings.specs.inner.Checking.{Proper}
use Rattle.strings.specs.inner.Walking.{ascii_at, expected_of, expected_at, Sound, begun, Comes, Beyond, Leads}

-- a byte that is all there is of a character is that character
pub ascii_stands : (s : List ℕ) (p : Place) (b : ℕ) → ascii_at s p ≡ Some b → folded_at s p ≡ Ok (Some (b, on_by 1 p))
unfolding ascii_at
ascii_stands s p b e = go (single_at s p) refl e
  where
    go : (t : Bool) → single_at s p ≡ t → ◌≡◌ {A = Option ℕ} (if t then Some (byte_at s p) else None) (Some b)
        → folded_at s p ≡ Ok (Some (b, on_by 1 p))
    go true h e = let k : byte_at s p ≡ b = cc in single_stands s p h ∙ rw k
    go false h e = cc

-- the walk over what stands at a place
module _ (s : List ℕ) (o : ℕ) (p : Place) where
  -- nothing that can be expected there: the rule refuses, wherever in a string that is
  pub expected_fails : (f : Refusal) → expected_at s o p ≡ Err f → (i : Inside) (h : List ℕ) → gather o i h (folded_from s p) ≡ refused f
  unfolding expected_at expected_of gather
  expected_fails f e i h = go (folded_at s p) refl e
    where
      go : (r : Read) → folded_at s p ≡ r → expected_of o p r ≡ Err f → gather o i h (folded_from s p) ≡ refused f
      go (Ok None) g e = rw (folded_end s p g) (cc)
      go (Err k) g e = rw (folded_ill s p k g) (cc)
      go (Ok (Some k)) g e = cc

  pub expected_stands : (c : ℕ) (n : Place) → expected_at s o p ≡ Ok (c, n) → folded_at s p ≡ Ok (Some (c, n))
  unfolding expected_at expected_of
  expected_stands c n e = go (folded_at s p) refl e
    where
      go : (r : Read) → folded_at s p ≡ r → expected_of o p r ≡ Ok (c, n) → folded_at s p ≡ Ok (Some (c, n))
      go (Ok None) g e = cc
      go (Err k) g e = cc
      go (Ok (Some k)) g e = cc

  -- a character: the turn that it is
  module _ (c : ℕ) (n : Place) (here : folded_at s p ≡ Ok (Some (c, n))) (i : Inside) (h : List ℕ) where
    turned : gather o i h (folded_from s p) ≡ gather_on (turn_of i p c) h (folded_from s n) (λ j g. gather o j g (folded_from s n))
    unfolding gather
    turned = rw (folded_char s p c n here)

    pub turn_on : (j : Inside) (m : Option More) → turn_of i p c ≡ Ok (On j m)
        → gather o i h (folded_from s p) ≡ gather o j (h ++ added_of m) (folded_from s n)
    unfolding gather_on
    turn_on j m e = turned ∙ rw e

    pub turn_close : turn_of i p c ≡ Ok Close → gather o i h (folded_from s p) ≡ bytes h (folded_from s n)
    unfolding gather_on
    turn_close e = turned ∙ rw e

    pub turn_fail : (f : Refusal) → turn_of i p c ≡ Err f → gather o i h (folded_from s p) ≡ refused f
    unfolding gather_on
    turn_fail f e = turned ∙ rw e

-- what a turn adds is proper, and brings it back between characters
abbrev Back : Inside → Option More → Type 0
Back j None = Unit {0}
Back j (Some m) = (j ≡ Plain) × Proper m

-- what holds of a turn by a character of w bytes, behind k of an escape: the next state is sound, a byte or a scalar is added, and no more than was passed
data Good (w k : ℕ) : Result Turn Refusal → Type 0 where
  goes : {j : Inside} {m : Option More} → Sound j → Back j m → length (added_of m) + begun j ≤ w + k → Good w k (Ok (On j m))
  closes : Good w k (Ok Close)
  fails : {f : Refusal} → Good w k (Err f)

-- a test is either way, and so is an option
good_if : {w k : ℕ} {a b : Result Turn Refusal} (t : Bool) → (t ≡ true → Good w k a) → (t ≡ false → Good w k b) → Good w k (if t then a else b)
good_if true f g = f refl
good_if false f g = g refl

good_or : {w k : ℕ} {b : Result Turn Refusal} {f : ℕ → Result Turn Refusal} (o : Option ℕ)
    → ((d : ℕ) → o ≡ Some d → Good w k (f d)) → Good w k b → Good w k (option_map_or f o b)
good_or (Some d) f g = f d refl
good_or None f g = g

module _ (w : ℕ) (some : 1 ≤ w) (p : Place) (c : ℕ) where
  plain_good : is_scalar c ≡ true → length (encode c) ≤ w → Good w 0 (plain_turn p c)
  unfolding plain_turn added
  plain_good s l =
      good_if (eqb c 0x22) (λ e. closes) (λ e.
      good_if (eqb c 0x5C) (λ e. goes tt tt (omega arith)) (λ e.
      good_if (ltb c 0x20 || eqb c 0x7F) (λ e. fails) (λ e. goes tt (refl, s) (omega arith))))

  escape_good : Good w 1 (escape_turn p c)
  unfolding escape_turn added
  escape_good =
      good_if (eqb c 0x75) (λ e. goes tt tt (omega arith)) (λ e.
      good_or (to_hex c) (λ h e. goes (hex_low c h e) tt (omega arith))
      (good_or (simple_of c) (λ d e.
      let low = simple_low c d e in
      goes tt (refl, scalar_low _ (omega arith)) (rw (encode_one _ low) (omega arith))) fails))

  half_good : (h : ℕ) → h < 16 → Good w 2 (half_turn h p c)
  unfolding half_turn added
  half_good h s =
      good_or (to_hex c) (λ d e. let l = hex_low c d e in goes tt (refl, let k : h * 16 + d < 256 = omega arith in k) (omega arith)) fails

  brace_good : (u : Place) → Good w 2 (brace_turn u p c)
  unfolding brace_turn
  brace_good u = good_if (eqb c 0x7B) (λ e. goes tt tt (omega arith)) (λ e. fails)

  first_good : (u : Place) → Good w 3 (first_turn u p c)
  unfolding first_turn
  first_good u = good_or (to_hex c) (λ d e. goes tt tt (omega arith)) fails

  number_good : (k : Digits) → Good w 4 (number_turn k p c)
  unfolding number_turn digit_turn end_turn added
  number_good k =
      good_if (eqb c 0x5F) (λ e. goes tt tt (omega arith)) (λ e.
      good_or (to_hex c) (λ d e.
      good_if (leb (k.value * 16 + d) 0xFFFFFFFF) (λ e. goes tt tt (omega arith)) (λ e. fails))
      (good_if k.lone (λ e. fails) (λ e.
      good_if (is_scalar k.value) (λ s.
      good_if (eqb c 0x7D) (λ e. goes tt (refl, s) (omega (arith, encode_most k.value))) (λ e. fails)) (λ e. fails))))

  turn_good : (i : Inside) → Sound i → is_scalar c ≡ true → length (encode c) ≤ w → Good w (begun i) (turn_of i p c)
  unfolding turn_of
  turn_good Plain s e l = plain_good e l
  turn_good Escape s e l = escape_good
  turn_good (Half h) s e l = half_good h s
  turn_good (Brace u) s e l = brace_good u
  turn_good (First u) s e l = first_good u
  turn_good (Number k) s e l = number_good k

-- no turn adds more than four bytes
pub size_most : (m : More) → length (added m) ≤ 4
unfolding added
size_most (One b) = omega arith
size_most (Whole c) = encode_most c

-- the walk stays where it is
pub comes_none : (s : List ℕ) (o : ℕ) (i : Inside) (p : Place) → Comes s o i p i [] p
comes_none s o i p = record { same = λ h. rw append-nil; paid = omega arith; onward = omega arith }

-- and comes on from where it came to
pub comes_on : (s : List ℕ) (o : ℕ) (i j k : Inside) (p q n : Place) (g h : List ℕ)
    → Comes s o i p j g q → Comes s o j q k h n → Comes s o i p k (g ++ h) n
comes_on s o i j k p q n g h a b = record {
  same = λ l. a.same l ∙ b.same (l ++ g) ∙ rw append_assoc;
  paid = omega (arith, length-append g h, a.paid, b.paid);
  onward = omega (arith, a.onward, b.onward);
}

-- THE LAW of a turn that goes on
pub record Went (s : List ℕ) (o : ℕ) (i : Inside) (p : Place) (j : Inside) (m : Option More) (n : Place) : Type 0 where
  pub comes : Comes s o i p j (added_of m) n
  pub sound : Sound j
  pub back : Back j m

module _ (s : List ℕ) (o : ℕ) (i : Inside) (p : Place) (c : ℕ) (n : Place) (here : folded_at s p ≡ Ok (Some (c, n))) where
  pub went : Sound i → (j : Inside) (m : Option More) → turn_of i p c ≡ Ok (On j m) → Went s o i p j m n
  went sound j m e =
      let w = folded_onward s p c n here in
      let wide : length (encode c) ≤ n.0 - p.0 = omega (arith, folded_width s p c n here) in
      go w (rw e at (turn_good (n.0 - p.0) (omega arith) p c i sound (folded_scalar s p c n here) wide))
    where
      go : Onward s p n → Good (n.0 - p.0) (begun i) (Ok (On j m)) → Went s o i p j m n
      go w (goes sound back most) = record {
        comes = record { same = λ h. turn_on s o p c n here i h j m e; paid = omega arith; onward = omega arith };
        sound = sound;
        back = back;
      }

pub read_on : (s : List ℕ) (p : Place) (c : ℕ) (n : Place) → folded_at s p ≡ Ok (Some (c, n)) → Beyond s p n
read_on s p c n here = let w = folded_onward s p c n here in record { beyond = w.beyond; inside = w.inside; capped = w.capped }

-- where the walk comes to an element, it came to it before
module _ (s : List ℕ) (o : ℕ) (i j : Inside) (p q : Place) (a : Comes s o i p j [] q) where
  beyond_too : (n : Place) → Beyond s q n → Beyond s p n
  beyond_too n b = record { beyond = omega (arith, a.onward, b.beyond); inside = b.inside; capped = omega (arith, a.onward, b.capped) }

  pub leads_too : (e : Result Element Refusal) → Leads s o j q e → Leads s o i p e
  leads_too (Ok (Adds m n)) l = (beyond_too n l.0, comes_on s o i j Plain p q n [] (added m) a l.1, l.2)
  leads_too (Ok (Closes n)) l = (beyond_too n l.0, λ h. a.same h ∙ rw append-nil (l.1 h))
  leads_too (Err f) l = λ h. a.same h ∙ rw append-nil (l h)

-- a turn that adds something is an element
pub leads_back : (s : List ℕ) (o : ℕ) (i : Inside) (p : Place) (j : Inside) (m : More) (n : Place)
    → Beyond s p n → Went s o i p j (Some m) n → Leads s o i p (Ok (Adds m n))
leads_back s o i p j m n b w = let k = w.back.0 in (b, rw k at w.comes, w.back.1)

-- THE LAWS of the turns of an escape: the walk came from i at p to j at q and gathered nothing, and a character is expected there
module _ (s : List ℕ) (o : ℕ) (i : Inside) (p : Place) (j : Inside) (q : Place) (a : Comes s o i p j [] q) where
  pub none_stands : (f : Refusal) → expected_at s o q ≡ Err f → Leads s o i p (Err f)
  none_stands f e = leads_too s o i j p q a (Err f) (λ h. expected_fails s o q f e j h)

  module _ (c : ℕ) (n : Place) (e : expected_at s o q ≡ Ok (c, n)) where
    here : folded_at s q ≡ Ok (Some (c, n))
    here = expected_stands s o q c n e

    pub turned_beyond : Beyond s q n
    turned_beyond = read_on s q c n here

    pub turned_fail : (f : Refusal) → turn_of j q c ≡ Err f → Leads s o i p (Err f)
    turned_fail f t = leads_too s o i j p q a (Err f) (λ h. turn_fail s o q c n here j h f t)

    pub turned_close : turn_of j q c ≡ Ok Close → Leads s o i p (Ok (Closes n))
    turned_close t = leads_too s o i j p q a (Ok (Closes n)) (turned_beyond, λ h. turn_close s o q c n here j h t)

    module _ (sound : Sound j) (k : Inside) where
      pub turned_adds : (m : More) → turn_of j q c ≡ Ok (On k (Some m)) → Leads s o i p (Ok (Adds m n))
      turned_adds m t =
          leads_too s o i j p q a (Ok (Adds m n)) (leads_back s o j q k m n turned_beyond (went s o j q c n here sound k (Some m) t))

      pub turned_on : turn_of j q c ≡ Ok (On k None) → Comes s o i p k [] n × Sound k
      turned_on t =
          let w = went s o j q c n here sound k None t in (comes_on s o i j k p q n [] [] a w.comes, w.sound)

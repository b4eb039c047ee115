-- A run's turns, the bytes that it passes over at once, and where a rule over the characters ends.
use Rattle.std.specs.Prelude.{if◌then◌else◌}
use Prim.Native.Nat.{ℕ, ◌≤◌, ◌<◌}
use mathlib.Core.Path.{◌≡◌, refl, sym, ap, ◌∙◌}
use mathlib.Core.Bool.{Bool, true, false}
use mathlib.Core.Logic.{◌⊎◌, ⊎_elim, inl, inr}
use mathlib.Core.List.{List}
use native.Mathlib.Omega.{arith}
use lib.Dec.{ltb}
use lib.ListN.{length}
use Rattle.terms.specs.Terms.{within}
use Rattle.terms.proofs.BelowLaws.{all_below, alike, alike_below}
use Rattle.answers.specs.declared.Place.{Place}
use Rattle.answers.specs.declared.Ill.{Ill as Sequence}
use Rattle.answers.specs.declared.Refusal.{Refusal}
use Rattle.answers.specs.declared.Refusal.TheVariants.{IllFormed}
use Rattle.std.specs.Prelude.{None, Some, Result, Ok, Err}
use Rattle.std.specs.Result.{IsErrAnd}
use Rattle.std.proofs.lemmas.Result.{err_from_is_err_and}
use Rattle.chars.specs.Utf8.{byte_at, on_by}
use Rattle.chars.specs.View.{Chars, end, ill, char, place_of, folded_at, folded_from}
use Rattle.classes.specs.Classes.{keylike_continue}
use Rattle.classes.specs.inner.Runs.{keylike_set, keylike_end}
use Rattle.classes.proofs.ShortLaws.{keylike_ascii}
use Rattle.classes.proofs.RunLaws.{keylike_passes}
use Rattle.chars.specs.inner.Runs.{in_set, run_end}
use Rattle.chars.proofs.ViewLaws.{Ordered, folded_end, folded_ill, folded_char, folded_ordered}
use Rattle.chars.specs.inner.Single.{single_at}
use Rattle.chars.proofs.RunLaws.{run_strides, run_stops, in_set_low}
use Rattle.chars.proofs.SingleLaws.{single_is, single_stands}
use Rattle.runs.specs.declared.Run.{Run}
use Rattle.runs.specs.Comments.{Ran, blank, digit, run}
use Rattle.runs.specs.inner.Runs.{class_of, passed_over, set_of}

-- a run's class by its name
pub blanks_class : class_of Run.Blanks ≡ blank
unfolding class_of
blanks_class = refl

pub digits_class : class_of Run.Digits ≡ digit
unfolding class_of
digits_class = refl

pub keylike_class : class_of Run.Keylike ≡ keylike_continue
unfolding class_of
keylike_class = refl

module _ (class : ℕ → Bool) (s : List ℕ) (p : Place) where
  pub run_end_lem : folded_at s p ≡ Ok None → run class (folded_from s p) ≡ Ok p
  unfolding run
  run_end_lem e = rw (folded_end s p e)

  pub run_ill : (i : Sequence) → folded_at s p ≡ Err i → run class (folded_from s p) ≡ Err (IllFormed i)
  unfolding run
  run_ill i e = rw (folded_ill s p i e)

  module _ (c : ℕ) (n : Place) (e : folded_at s p ≡ Ok (Some (c, n))) where
    pub run_inside : class c ≡ true → run class (folded_from s p) ≡ run class (folded_from s n)
    unfolding run
    run_inside h = rw (folded_char s p c n e, h)

    pub run_outside : class c ≡ false → run class (folded_from s p) ≡ Ok p
    unfolding run
    run_outside h = rw (folded_char s p c n e, h)

-- below 0x80 a class has the bytes of its set and no others; of blanks and digits that is computed over all of them
all_blanks : all_below 128 (λ b. alike (blank b) (in_set (set_of Run.Blanks) b)) ≡ true
unfolding all_below alike in_set set_of blank
all_blanks = refl

all_digits : all_below 128 (λ b. alike (digit b) (in_set (set_of Run.Digits) b)) ≡ true
unfolding all_below alike in_set set_of digit within
all_digits = refl

in_class : (r : Run) (b : ℕ) → b < 128 → class_of r b ≡ in_set (set_of r) b
unfolding class_of set_of
in_class Run.Blanks b l = alike_below 128 blank (in_set (set_of Run.Blanks)) all_blanks b l
in_class Run.Digits b l = alike_below 128 digit (in_set (set_of Run.Digits)) all_digits b l
in_class Run.Keylike b l = keylike_ascii b l

no_return : (r : Run) → in_set (set_of r) 13 ≡ false
unfolding in_set set_of keylike_set
no_return Run.Blanks = refl
no_return Run.Digits = refl
no_return Run.Keylike = refl

-- so they are passed over at once
pub run_passes : (r : Run) (s : List ℕ) (p : Place)
    → run (class_of r) (folded_from s p) ≡ run (class_of r) (folded_from s (run_end s (set_of r) p))
run_passes r s p =
    run_strides s (set_of r) p (λ (q : Place). run (class_of r) (folded_from s q)) (no_return r)
    (λ q m e. run_inside (class_of r) s q (byte_at s q) (on_by 1 q) e (in_class r (byte_at s q) (in_set_low (set_of r) (byte_at s q) m) ∙ m))

-- and a byte below 0x80 that is not of the set ends the run
pub run_ends : (r : Run) (s : List ℕ) (p : Place) → single_at s (run_end s (set_of r) p) ≡ true
    → run (class_of r) (folded_from s p) ≡ Ok (run_end s (set_of r) p)
run_ends r s p e =
    let i = single_is s (run_end s (set_of r) p) e in
    run_passes r s p
    ∙ run_outside (class_of r) s (run_end s (set_of r) p) (byte_at s (run_end s (set_of r) p)) (on_by 1 (run_end s (set_of r) p)) (single_stands s _ e)
    (in_class r _ i.low ∙ run_stops s (set_of r) p i.inside i.capped)

-- and a word is passed over at once too
run_over : (r : Run) (s : List ℕ) (p : Place)
    → run (class_of r) (folded_from s p) ≡ run (class_of r) (folded_from s (passed_over r s p))
unfolding passed_over class_of run
run_over Run.Blanks s p = refl
run_over Run.Digits s p = refl
run_over Run.Keylike s p = go (ltb (byte_at s p) 0xCB)
  where
    goes_on : (q : Place) (c : ℕ) (v : Chars) → keylike_continue c ≡ true → run (class_of Run.Keylike) (char q c v) ≡ run (class_of Run.Keylike) v
    goes_on q c v h = rw h

    go : (t : Bool)
        → run (class_of Run.Keylike) (folded_from s p) ≡ run (class_of Run.Keylike) (folded_from s (if t then p else keylike_end (folded_from s p)))
    go true = refl
    go false = keylike_passes s p (run (class_of Run.Keylike)) goes_on

pub run_over_at : {v : Ran} (r : Run) (s : List ℕ) (p q : Place)
    → q ≡ passed_over r s p → run (class_of r) (folded_from s q) ≡ v → run (class_of r) (folded_from s p) ≡ v
run_over_at r s p q e h = run_over r s p ∙ rw (← e) h

-- an ill-formed sequence refuses by itself
pub ill_refuses : {A : Type 0} {i : Sequence} (r : Result A Refusal) → IsErrAnd r (λ f. f ≡ IllFormed i) → r ≡ Err (IllFormed i)
ill_refuses r e = let p = err_from_is_err_and r e in p.1 ∙ rw p.2

pub to_is : {n m : Place} → ◌≡◌ {A = Ran} (Ok n) (Ok m) → n ≡ m
to_is e = cc

pub stopped_not : {f : Refusal} {n : Place} → ◌≡◌ {A = Ran} (Err f) (Ok n) → ⊥
stopped_not e = let z : ◌≡◌ {A = ℕ} 0 1 = cc in omega arith

-- n is a place of the view: where one of its characters stands, or what ends it
abbrev pub Among : Chars → Place → Type 0
Among (end q) n = q ≡ n
Among (ill i) n = i.at ≡ n
Among (char q c v) n = (q ≡ n) ⊎ Among v n

pub first_among : (v : Chars) (n : Place) → place_of v ≡ n → Among v n
unfolding place_of
first_among (end q) n e = e
first_among (ill i) n e = e
first_among (char q c v) n e = inl e

same : {p q n : Place} → q ≡ p → q ≡ n → p.0 ≡ n.0
same e f = ap (λ (x : Place). x.0) (sym e ∙ f)

among_within : (len : ℕ) (v : Chars) (p : Place) → Ordered len p v → p.0 ≤ len → (n : Place) → Among v n → (p.0 ≤ n.0) × (n.0 ≤ len)
among_within len (end q) p h l n a = let s = same h a in omega arith
among_within len (ill i) p h l n a = let s = same h a in omega arith
among_within len (char q c v) p h l n a =
    ⊎_elim (λ b. let s = same h.0 b in omega arith)
    (λ b. let r = among_within len v h.1.0 h.1.3 h.1.2 n b in omega arith) a

-- THE LAW: a rule that ends at a place of the view from p ends not before p, and within the text
pub view_within : (s : List ℕ) (p : Place) → p.0 ≤ length s → (n : Place) → Among (folded_from s p) n → (p.0 ≤ n.0) × (n.0 ≤ length s)
view_within s p l n a = among_within (length s) (folded_from s p) p (folded_ordered s p) l n a

-- so a run does
run_among : (class : ℕ → Bool) (v : Chars) (n : Place) → run class v ≡ Ok n → Among v n
unfolding run
run_among class (end q) n e = to_is e
run_among class (ill i) n e = absurd (stopped_not e)
run_among class (char q c v) n e = go (class c) e (run_among class v n)
  where
    go : (t : Bool) → (if t then run class v else Ok q) ≡ Ok n → (run class v ≡ Ok n → Among v n) → Among (char q c v) n
    go true e ih = inr (ih e)
    go false e ih = inl (to_is e)

pub run_to : (class : ℕ → Bool) (s : List ℕ) (p : Place) → p.0 ≤ length s
    → (n : Place) → run class (folded_from s p) ≡ Ok n → (p.0 ≤ n.0) × (n.0 ≤ length s)
run_to class s p l n e = view_within s p l n (run_among class (folded_from s p) n e)

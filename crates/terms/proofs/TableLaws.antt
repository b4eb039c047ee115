-- A table's word on a whole range is computed, and holds of each number in it.
use Rattle.std.specs.Prelude.{if◌then◌else◌}
use Prim.Native.Nat.{ℕ, zero, suc, ◌≤◌, ◌<◌, ◌+◌, ◌-◌}
use mathlib.Core.Path.{◌≡◌, refl, ◌∙◌}
use mathlib.Core.Bool.{Bool, true, false, ◌&&◌, ◌||◌, false≢true}
use mathlib.Core.List.{List, [], ◌∷◌}
use mathlib.Core.Option.{Option, none, some}
use lib.Dec.{leb, ltb, eqb}
use native.Mathlib.Omega.{arith}
use types.Run.{OneOf}
use borrow.Author.Tests.{leb-true, leb-false, ltb-true, eqb-true}
use Rattle.terms.specs.Terms.{within, Row, ◌to◌is◌, said}
use mathlib.Core.Logic.{⊎_elim, inl, inr}
use Rattle.terms.proofs.TestLaws.{within_true, fails, within_yes, within_below, within_above, and_both, or_either}

-- what the `_` arm of a `match` knows: x is none of the keys of the arms with single numbers. It is the type of `c.match.rest` at N = Unit
abbrev pub Rest : Type 0 → List (List ℕ) → ℕ → Type 0
Rest N [] x = N
Rest N (ks ∷ kss) x = Rest (N × (OneOf ks x → ⊥)) kss x

unfoldable pub is_key : ℕ → List ℕ → Bool
is_key k [] = false
is_key k (j ∷ ks) = eqb k j || is_key k ks

unfoldable pub is_keys : ℕ → List (List ℕ) → Bool
is_keys k [] = false
is_keys k (ks ∷ kss) = is_key k ks || is_keys k kss

-- the one word that the rows have for each number of low, …, high but the keys, if they have one
unfoldable pub word : {A : Type 0} → List (List ℕ) → ℕ → ℕ → List (Row A) → A → Option A
word kss low high [] other = some other
word kss low high (a to b is v ∷ rows) other =
    if ltb high a then word kss low high rows other
    else (if ltb b low then word kss low high rows other
    else (if leb a low && leb high b then some v
    else (if eqb a b && is_keys a kss then word kss low high rows other
    else none)))

-- a key of an arm is not what a number of the `_` arm is
key_is : (k : ℕ) (ks : List ℕ) (x : ℕ) → is_key k ks ≡ true → x ≡ k → OneOf ks x
unfolding is_key
key_is k [] x t e = absurd (false≢true t)
key_is k (j ∷ []) x t e = ⊎_elim (λ h. e ∙ eqb-true k j h) (λ h. absurd (false≢true h)) (or_either (eqb k j) false t)
key_is k (j ∷ i ∷ ks) x t e =
    ⊎_elim (λ h. inl (e ∙ eqb-true k j h)) (λ h. inr (key_is k (i ∷ ks) x h e)) (or_either (eqb k j) (is_key k (i ∷ ks)) t)

rest_first : (N : Type 0) (kss : List (List ℕ)) (x : ℕ) → Rest N kss x → N
rest_first N [] x r = r
rest_first N (ks ∷ kss) x r = (rest_first (N × (OneOf ks x → ⊥)) kss x r).0

pub keys_out : (N : Type 0) (kss : List (List ℕ)) (x k : ℕ) → Rest N kss x → is_keys k kss ≡ true → x ≡ k → ⊥
unfolding is_keys
keys_out N [] x k r t e = false≢true t
keys_out N (ks ∷ kss) x k r t e =
    ⊎_elim (λ h. (rest_first (N × (OneOf ks x → ⊥)) kss x r).1 (key_is k ks x h e))
    (λ h. keys_out (N × (OneOf ks x → ⊥)) kss x k r h e)
    (or_either (is_key k ks) (is_keys k kss) t)

none_some : {A : Type 0} {v : A} → none ≡ some v → ⊥
none_some e = let z : ◌≡◌ {A = ℕ} 0 1 = cc in omega arith

-- one row of the walk: S is what the later rows say, and W the word that they have
one : {A : Type 0} (kss : List (List ℕ)) (low high x a b : ℕ) → Rest (Unit {0}) kss x → low ≤ x → x ≤ high
    → (w v S : A) (W : Option A) (p q s t : Bool) → ltb high a ≡ p → ltb b low ≡ q → (leb a low && leb high b) ≡ s → (eqb a b && is_keys a kss) ≡ t
    → (if p then W else (if q then W else (if s then some w else (if t then W else none)))) ≡ some v → (W ≡ some v → S ≡ v)
    → (if within a b x then w else S) ≡ v
one kss low high x a b r f g w v S W true q s t hp hq hs ht e ih =
    let h = ltb-true high a hp in rw (within_below a b x (omega arith)) (ih e)
one kss low high x a b r f g w v S W false true s t hp hq hs ht e ih =
    let h = ltb-true b low hq in rw (within_above a b x (omega arith)) (ih e)
one kss low high x a b r f g w v S W false false true t hp hq hs ht e ih =
    let h = and_both (leb a low) (leb high b) hs in
    let i = leb-true a low h.0 in
    let j = leb-true high b h.1 in rw (within_yes a b x (omega arith) (omega arith)) (cc)
one kss low high x a b r f g w v S W false false false true hp hq hs ht e ih =
    let h = and_both (eqb a b) (is_keys a kss) ht in
    let i = eqb-true a b h.0 in
    let no : x ≡ a → ⊥ = keys_out (Unit {0}) kss x a r h.1 in
    rw (fails (within a b x) (λ y. no (let z = within_true a b x y in omega arith))) (ih e)
one kss low high x a b r f g w v S W false false false false hp hq hs ht e ih = absurd (none_some e)

-- THE LAW: where the rows have one word for the numbers low, …, high that are no keys, it is what is said of each
pub in_range : {A : Type 0} (kss : List (List ℕ)) (low high x : ℕ) → Rest (Unit {0}) kss x → low ≤ x → x ≤ high
    → (rows : List (Row A)) (other v : A) → word kss low high rows other ≡ some v → said rows other x ≡ v
unfolding word said
in_range kss low high x r f g [] other v e = cc
in_range kss low high x r f g ((a to b is w) ∷ rows) other v e =
    one kss low high x a b r f g w v (said rows other x) (word kss low high rows other)
    (ltb high a) (ltb b low) (leb a low && leb high b) (eqb a b && is_keys a kss) refl refl refl refl e
    (in_range kss low high x r f g rows other v)

-- a range less the keys at its two ends
unfoldable pub up : List (List ℕ) → ℕ → ℕ → ℕ
up kss zero low = low
up kss (suc k) low = elim (is_keys low kss) [ true ↦ up kss k (low + 1) | false ↦ low ]

unfoldable pub down : List (List ℕ) → ℕ → ℕ → ℕ
down kss zero high = high
down kss (suc k) high = elim (is_keys high kss) [ true ↦ down kss k (high - 1) | false ↦ high ]

up_le : (kss : List (List ℕ)) (k low x : ℕ) → Rest (Unit {0}) kss x → low ≤ x → up kss k low ≤ x
unfolding up
up_le kss zero low x r h = h
up_le kss (suc k) low x r h = go (is_keys low kss) refl (up_le kss k (low + 1) x r)
  where
    go : (t : Bool) → is_keys low kss ≡ t → (low + 1 ≤ x → up kss k (low + 1) ≤ x) → elim t as (λ _. ℕ) [ true ↦ up kss k (low + 1) | false ↦ low ] ≤ x
    go true e ih = let no : x ≡ low → ⊥ = keys_out (Unit {0}) kss x low r e in ih (omega arith)
    go false e ih = h

le_down : (kss : List (List ℕ)) (k high x : ℕ) → Rest (Unit {0}) kss x → x ≤ high → x ≤ down kss k high
unfolding down
le_down kss zero high x r h = h
le_down kss (suc k) high x r h = go (is_keys high kss) refl (le_down kss k (high - 1) x r)
  where
    go : (t : Bool) → is_keys high kss ≡ t → (x ≤ high - 1 → x ≤ down kss k (high - 1)) → x ≤ elim t as (λ _. ℕ) [ true ↦ down kss k (high - 1) | false ↦ high ]
    go true e ih = let no : x ≡ high → ⊥ = keys_out (Unit {0}) kss x high r e in ih (omega arith)
    go false e ih = h

-- THE LAW that a proof cites at a return: low, …, high as the tests have it, with the keys at its ends taken off by computation
pub in_match : {A : Type 0} (kss : List (List ℕ)) (low high x : ℕ) → Rest (Unit {0}) kss x → low ≤ x → x ≤ high
    → (rows : List (Row A)) (other v : A) → word kss (up kss 64 low) (down kss 64 high) rows other ≡ some v → said rows other x ≡ v
in_match kss low high x r f g rows other v e =
    in_range kss (up kss 64 low) (down kss 64 high) x r (up_le kss 64 low x r f) (le_down kss 64 high x r g) rows other v e

-- below or above: for a range that goes over several rows
pub split : {P : Type 0} (k x : ℕ) → (x ≤ k → P) → (k < x → P) → P
split {P} k x f g = go (leb x k) refl
  where
    go : (t : Bool) → leb x k ≡ t → P
    go true e = f (leb-true x k e)
    go false e = g (leb-false x k e)

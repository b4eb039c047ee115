-- A settled rule says what the rule of the character says.
use Rattle.std.specs.Prelude.{if◌then◌else◌}
use Prim.Native.Nat.{ℕ}
use mathlib.Core.Path.{◌≡◌, refl}
use mathlib.Core.Bool.{Bool, true, false}
use mathlib.Core.List.{List, []}
use native.Mathlib.Omega.{arith}
use Rattle.answers.specs.declared.Place.{Place}
use Rattle.classes.specs.Classes.{keylike_start}
use Rattle.chars.specs.View.{Chars}
use Rattle.tokens.specs.declared.Rule.{Rule}
use Rattle.tokens.specs.declared.Rule.TheVariants.{Blanks, Slash, Dash, Percent, Quote, Digits, Word, Mark, Classed}
use Rattle.terms.specs.Terms.{said, within}
use Rattle.terms.proofs.TestLaws.{within_true}
use Rattle.terms.proofs.TableLaws.{in_match, word, is_key, is_keys, up, down}
use Rattle.tokens.specs.Tokens.{rules, rule_of, lexed_by}
use Rattle.tokens.specs.inner.Settled.{settled}

pub settled_same : (r : Rule) (s : List ℕ) (o : ℕ) (p : Place) (c : ℕ) (v : Chars) → lexed_by (settled r c) s o p c v ≡ lexed_by r s o p c v
unfolding settled lexed_by
settled_same Blanks s o p c v = refl
settled_same Slash s o p c v = refl
settled_same Dash s o p c v = refl
settled_same Percent s o p c v = refl
settled_same Quote s o p c v = refl
settled_same Digits s o p c v = refl
settled_same Word s o p c v = refl
settled_same (Mark kind) s o p c v = refl
settled_same Classed s o p c v = go (keylike_start c) refl
  where
    go : (t : Bool) → keylike_start c ≡ t → lexed_by (if t then Word else Classed) s o p c v ≡ lexed_by Classed s o p c v
    go true e = rw e
    go false e = refl

-- so where it is settled as q, the token is the one by q
pub settled_as : {q : Rule} (r t : Rule) (s : List ℕ) (o : ℕ) (p : Place) (c : ℕ) (v : Chars)
    → t ≡ settled r c → t ≡ q → lexed_by q s o p c v ≡ lexed_by r s o p c v
settled_as r t s o p c v e h = rw (← h, e) (settled_same r s o p c v)

-- a character that is settled as Classed is not inside the class
word_not : Word ≡ Classed → ⊥
word_not e = let z : ◌≡◌ {A = ℕ} 0 1 = cc in omega arith

pub settled_not : (r : Rule) (c : ℕ) → settled r c ≡ Classed → keylike_start c ≡ true → ⊥
unfolding settled
settled_not Blanks c e i = let z : ◌≡◌ {A = ℕ} 0 1 = cc in omega arith
settled_not Slash c e i = let z : ◌≡◌ {A = ℕ} 0 1 = cc in omega arith
settled_not Dash c e i = let z : ◌≡◌ {A = ℕ} 0 1 = cc in omega arith
settled_not Percent c e i = let z : ◌≡◌ {A = ℕ} 0 1 = cc in omega arith
settled_not Quote c e i = let z : ◌≡◌ {A = ℕ} 0 1 = cc in omega arith
settled_not Digits c e i = let z : ◌≡◌ {A = ℕ} 0 1 = cc in omega arith
settled_not Word c e i = word_not e
settled_not (Mark kind) c e i = let z : ◌≡◌ {A = ℕ} 0 1 = cc in omega arith
settled_not Classed c e i = word_not (rw i at e)

-- any other rule stands
pub settled_other : (r : Rule) (c : ℕ) → (r ≡ Classed → ⊥) → settled r c ≡ r
unfolding settled
settled_other Blanks c h = refl
settled_other Slash c h = refl
settled_other Dash c h = refl
settled_other Percent c h = refl
settled_other Quote c h = refl
settled_other Digits c h = refl
settled_other Word c h = refl
settled_other (Mark kind) c h = refl
settled_other Classed c h = absurd (h refl)

-- a small letter begins a word
pub small : (c : ℕ) → within 0x61 0x7A c ≡ true → rule_of c ≡ Word
unfolding rule_of rules said within word is_key is_keys up down
small c e = let l = within_true 0x61 0x7A c e in in_match [] 0x61 0x7A c tt l.0 l.1 rules Classed _ refl

-- What the string rule yields, for the rooms above: an accepted string ends beyond its start and within the text, and has fewer bytes than lie between.
use Prim.Native.Nat.{ℕ, zero, suc, ◌≤◌, ◌<◌, ◌+◌, ◌-◌}
use mathlib.Core.Path.{◌≡◌, refl, sym, ap, ◌∙◌}
use mathlib.Core.List.{List, [], ◌++◌}
use native.Mathlib.Omega.{arith}
use lib.ListN.{length, length-append}
use Rattle.answers.specs.declared.Place.{Place}
use Rattle.answers.specs.declared.Position.{Position}
use Rattle.answers.specs.declared.Refusal.{Refusal}
use Rattle.answers.specs.Caps.{cap}
use Rattle.chars.specs.View.{Chars, place_of, folded_at, folded_from}
use Rattle.chars.specs.Utf8.{Read}
use Rattle.std.specs.Prelude.{Option, None, Some, Result, Ok, Err}
use Rattle.chars.proofs.Utf8Laws.{Onward}
use Rattle.chars.proofs.ViewLaws.{folded_end, folded_ill, folded_onward, folded_place}
use Rattle.strings.specs.declared.Literal.{Literal}
use Rattle.strings.specs.declared.Inside.{Inside}
use Rattle.strings.specs.declared.Inside.TheVariants.{Plain}
use Rattle.strings.specs.declared.More.{More}
use Rattle.strings.specs.declared.Turn.{Turn}
use Rattle.strings.specs.declared.Turn.TheVariants.{On, Close}
use Rattle.strings.specs.Strings.{turn_of, added_of, Gathered, bytes, refused, gather}
use Rattle.strings.specs.Strings.{Judged, whole, ill_at, judged, closed_by, literal_of, string_literal}
use Rattle.strings.specs.inner.Walking.{Sound, begun}
use Rattle.strings.proofs.TurnLaws.{turn_on, turn_close, turn_fail, went}

-- bytes are no refusal
pub not_refused : {f : Refusal} {g : List ℕ} {v : Chars} → refused f ≡ bytes g v → ⊥
not_refused e = let z : ◌≡◌ {A = ℕ} 0 1 = cc in omega arith

-- what is read where the walk from i at p, with h gathered, ends with the bytes g before v
pub record Ended (s : List ℕ) (i : Inside) (h : List ℕ) (p : Place) (g : List ℕ) (v : Chars) : Type 0 where
  pub beyond : p.0 < (place_of v).0
  pub inside : (place_of v).0 ≤ length s
  pub capped : p.0 < cap
  pub grown : length h ≤ length g
  pub paid : p.0 + length g < (place_of v).0 + length h + begun i

module _ (s : List ℕ) (o : ℕ) where
  -- something stands there
  pub accepted_char : (i : Inside) (h : List ℕ) (p : Place) (g : List ℕ) (v : Chars) → gather o i h (folded_from s p) ≡ bytes g v
      → (c : ℕ) × (n : Place) × (folded_at s p ≡ Ok (Some (c, n)))
  unfolding gather
  accepted_char i h p g v e = go (folded_at s p) refl
    where
      go : (r : Read) → folded_at s p ≡ r → (c : ℕ) × (n : Place) × (folded_at s p ≡ Ok (Some (c, n)))
      go (Ok None) w = absurd (not_refused (rw (folded_end s p w) at e))
      go (Err k) w = absurd (not_refused (rw (folded_ill s p k w) at e))
      go (Ok (Some (c, n))) w = (c, n, w)

  ends : (k : ℕ) (i : Inside) (h : List ℕ) (p : Place) (g : List ℕ) (v : Chars) → length s - p.0 < k → Sound i
      → gather o i h (folded_from s p) ≡ bytes g v → Ended s i h p g v
  ends zero i h p g v l d e = absurd (omega arith)
  ends (suc k) i h p g v l d e =
      let a = accepted_char i h p g v e in
      let w = folded_onward s p a.0 a.1 a.2 in
      go a.0 a.1 a.2 w (turn_of i p a.0) refl (λ j m q. ends k j (h ++ added_of m) a.1 g v (omega arith) q)
    where
      go : (c : ℕ) (n : Place) → folded_at s p ≡ Ok (Some (c, n)) → Onward s p n → (t : Result Turn Refusal) → turn_of i p c ≡ t
          → ((j : Inside) (m : Option More) → Sound j → gather o j (h ++ added_of m) (folded_from s n) ≡ bytes g v
          → Ended s j (h ++ added_of m) n g v)
          → Ended s i h p g v
      go c n here w (Ok (On j m)) t ih =
          let x = went s o i p c n here d j m t in
          let r = ih j m x.sound (sym (turn_on s o p c n here i h j m t) ∙ e) in
          record {
            beyond = omega (arith, r.beyond);
            inside = r.inside;
            capped = w.capped;
            grown = omega (arith, r.grown, length-append h (added_of m));
            paid = omega (arith, r.paid, length-append h (added_of m), x.comes.paid);
          }
      go c n here w (Ok Close) t ih =
          let q : bytes h (folded_from s n) ≡ bytes g v = sym (turn_close s o p c n here i h t) ∙ e in
          let a : h ≡ g = cc in
          let b : folded_from s n ≡ v = cc in
          let z : n.0 ≡ (place_of v).0 = ap (λ (x : Place). x.0) (sym (folded_place s n) ∙ rw b) in
          record {
            beyond = omega arith;
            inside = omega arith;
            capped = w.capped;
            grown = omega (arith, ap length a);
            paid = omega (arith, ap length a);
          }
      go c n here w (Err f) t ih = absurd (not_refused (sym (turn_fail s o p c n here i h f t) ∙ e))

  pub ended : (i : Inside) (h : List ℕ) (p : Place) (g : List ℕ) (v : Chars) → Sound i
      → gather o i h (folded_from s p) ≡ bytes g v → Ended s i h p g v
  ended i h p g v d e = ends (suc (length s - p.0)) i h p g v (omega arith) d e

-- what the rule gathered, where it answers that a string is closed
pub record Accepted (s : List ℕ) (o : ℕ) (p : Place) (l : Literal) : Type 0 where
  pub value : List ℕ
  pub left : Chars
  pub gathered : gather o Plain [] (folded_from s p) ≡ bytes value left
  pub well : judged value ≡ whole
  pub counted : length value ≡ l.count
  pub behind : place_of left ≡ l.end

pub accepted : (s : List ℕ) (o : ℕ) (q : Position) (p : Place) (l : Literal) → string_literal s o q p ≡ Ok l → Accepted s o p l
unfolding string_literal literal_of closed_by
accepted s o q p l e = go (gather o Plain [] (folded_from s p)) refl e
  where
    close : (g : List ℕ) (v : Chars) → gather o Plain [] (folded_from s p) ≡ bytes g v → (j : Judged) → judged g ≡ j
        → closed_by q (length g) j (place_of v) ≡ Ok l → Accepted s o p l
    close g v w whole j e =
        let k : record { end = place_of v; count = length g } ≡ l = cc in
        record { value = g; left = v; gathered = w; well = j; counted = ap (λ (x : Literal). x.count) k; behind = ap (λ (x : Literal). x.end) k }
    close g v w (ill_at k) j e = cc

    go : (r : Gathered) → gather o Plain [] (folded_from s p) ≡ r → literal_of q r ≡ Ok l → Accepted s o p l
    go (bytes g v) w e = close g v w (judged g) refl e
    go (refused f) w e = cc

-- THE LAW that a caller's loop cites: a closed string ends beyond its start and within the text, its start was read, and its bytes are fewer than those between
pub record Closing (s : List ℕ) (p m : Place) (n : ℕ) : Type 0 where
  pub beyond : p.0 < m.0
  pub inside : m.0 ≤ length s
  pub capped : p.0 < cap
  pub fewer : p.0 + n < m.0

pub closing : (s : List ℕ) (o : ℕ) (q : Position) (p : Place) (l : Literal) → string_literal s o q p ≡ Ok l → Closing s p l.end l.count
closing s o q p l e =
    let a = accepted s o q p l e in
    let r = ended s o Plain [] p a.value a.left tt a.gathered in
    let b : (place_of a.left).0 ≡ l.end.0 = ap (λ (x : Place). x.0) a.behind in
    record {
      beyond = omega (arith, r.beyond);
      inside = omega (arith, r.inside);
      capped = r.capped;
      fewer = omega (arith, r.paid, a.counted);
    }

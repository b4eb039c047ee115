-- The loop of the second walk: in an accepted string the unmarked bytes are raw characters, and what the buffer holds at each step.
use Prim.Native.Nat.{ℕ, zero, suc, ◌≤◌, ◌<◌, ◌+◌, ◌-◌}
use mathlib.Core.Path.{◌≡◌, refl, sym, ap, ◌∙◌}
use mathlib.Core.Bool.{Bool, true, false, ◌||◌}
use mathlib.Core.List.{List, [], ◌++◌}
use mathlib.Core.Logic.{⊎_elim}
use native.Mathlib.Omega.{arith}
use lib.Dec.{ltb, eqb}
use lib.ListN.{length, get_or, take, drop, length-append, length-drop, take-append-drop}
use lib.Seq.{paste, take-paste, drop-paste, length-paste, length-take-le, take-length, drop-drop}
use borrow.Author.Tests.{ltb-false, eqb-true, eqb-false, ne_eqb}
use Rattle.terms.proofs.TestLaws.{or_neither}
use Rattle.terms.proofs.TableLaws.{split}
use Rattle.terms.proofs.FirstLaws.{first_hit, first_skip, first_from}
use Rattle.answers.specs.declared.Place.{Place}
use Rattle.answers.specs.declared.Refusal.{Refusal}
use Rattle.answers.specs.declared.Refusal.TheVariants.{InvalidStringElement}
use Rattle.answers.specs.Caps.{cap}
use Rattle.chars.specs.Utf8.{byte_at, on_by, char_at, encode}
use Rattle.chars.specs.View.{Chars, folded_at, folded_from}
use Rattle.std.specs.Prelude.{Some, Ok, Err}
use Rattle.chars.proofs.Utf8Laws.{onward}
use Rattle.chars.proofs.ViewLaws.{folded_is, folded_onward}
use Rattle.chars.proofs.EncodeLaws.{encode_tails}
use Rattle.chars.proofs.RoundTrip.{read_width, read_byte, ascii_byte}
use Rattle.strings.specs.declared.Inside.TheVariants.{Plain}
use Rattle.strings.specs.declared.More.{More}
use Rattle.strings.specs.declared.Element.TheVariants.{Adds, Close as Closes}
use Rattle.strings.specs.Strings.{plain_turn, turn_of, added, Gathered, bytes, refused, gather}
use Rattle.strings.specs.inner.Walking.{Comes, Leads, Raw}
use Rattle.strings.specs.inner.Writing.{Roomy, filled, is_mark, unmarked, copied, stored}
use Rattle.strings.proofs.WritingLaws.{over_rest}
use Rattle.strings.proofs.TurnLaws.{turn_fail}
use Rattle.strings.proofs.RawLaws.{Bare, raw_none, raw_one, raw_join}
use Rattle.strings.proofs.StringLaws.{not_refused, accepted_char, ended}

module _ (s : List ℕ) where
  abbrev mark : ℕ → Bool
  mark j = is_mark (get_or s j 0)

  -- a byte that is no mark is neither quote nor backslash, and one of 0x80 or more is none
  unmarked_is : (b : ℕ) → is_mark b ≡ false → (b ≡ 0x22 → ⊥) × (b ≡ 0x5C → ⊥)
  unfolding is_mark
  unmarked_is b e = let n = or_neither (eqb b 0x22) (eqb b 0x5C) e in (eqb-false _ _ n.0, eqb-false _ _ n.1)

  unmarked_high : (b : ℕ) → 0x80 ≤ b → is_mark b ≡ false
  unfolding is_mark
  unmarked_high b h = rw (ne_eqb b 0x22 (λ e. omega arith), ne_eqb b 0x5C (λ e. omega arith))

  -- the character that stands at an unmarked byte of an accepted string is raw
  module _ (o : ℕ) (h : List ℕ) (p : Place) (g : List ℕ) (v : Chars) (e : gather o Plain h (folded_from s p) ≡ bytes g v)
      (c : ℕ) (n : Place) (here : folded_at s p ≡ Ok (Some (c, n))) (u : is_mark (byte_at s p) ≡ false) where
    unfolded : (c ≡ 10 → ⊥) → char_at s p ≡ Ok (Some (c, n))
    unfolded x = ⊎_elim (λ z. absurd (x z)) (λ z. z) (folded_is s p c n here)

    byte_is : c ≤ 0x7F → (c ≡ 10 → ⊥) → byte_at s p ≡ c
    byte_is l x = ascii_byte s p c n (unfolded x) l

    fails : eqb c 0x22 ≡ false → eqb c 0x5C ≡ false → (ltb c 0x20 || eqb c 0x7F) ≡ true → turn_of Plain p c ≡ Err (InvalidStringElement p c)
    unfolding turn_of plain_turn
    fails x y z = rw (x, y, z)

    char_bare : (char_at s p ≡ Ok (Some (c, n))) × Bare c
    char_bare = go (eqb c 0x22) refl (eqb c 0x5C) refl (ltb c 0x20 || eqb c 0x7F) refl
      where
        go : (t : Bool) → eqb c 0x22 ≡ t → (w : Bool) → eqb c 0x5C ≡ w → (f : Bool) → (ltb c 0x20 || eqb c 0x7F) ≡ f
            → (char_at s p ≡ Ok (Some (c, n))) × Bare c
        go true x w y f z =
            let k = eqb-true c 0x22 x in
            absurd ((unmarked_is (byte_at s p) u).0 (byte_is (omega arith) (λ d. omega arith) ∙ k))
        go false x true y f z =
            let k = eqb-true c 0x5C y in
            absurd ((unmarked_is (byte_at s p) u).1 (byte_is (omega arith) (λ d. omega arith) ∙ k))
        go false x false y true z = absurd (not_refused (sym (turn_fail s o p c n here Plain h _ (fails x y z)) ∙ e))
        go false x false y false z =
            let b = or_neither (ltb c 0x20) (eqb c 0x7F) z in
            let l : 0x20 ≤ c = ltb-false c 0x20 b.0 in
            (unfolded (λ d. omega arith), record { high = l; quote = eqb-false _ _ x; slash = eqb-false _ _ y; del = eqb-false _ _ b.1 })

  -- no byte of a raw character but the first can be a mark
  behind_unmarked : (p : Place) (c : ℕ) (n : Place) → char_at s p ≡ Ok (Some (c, n)) → is_mark (byte_at s p) ≡ false
      → (j : ℕ) → p.0 ≤ j → j < p.0 + (n.0 - p.0) → mark j ≡ false
  unfolding byte_at
  behind_unmarked p c n e u j x y =
      let w = onward s p c n e in
      split p.0 j (λ z. let q : p.0 ≡ j = omega arith in rw q at u)
      (λ z.
      let q : p.0 + (j - p.0) ≡ j = omega arith in
      let b : 0x80 ≤ get_or (encode c) (j - p.0) 0 = encode_tails c (j - p.0) (omega arith) (omega (arith, read_width s p c n e)) in
      let r : get_or s j 0 ≡ get_or (encode c) (j - p.0) 0 = rw q at (read_byte s p c n e (j - p.0) (omega arith)) in
      unmarked_high (get_or s j 0) (omega arith))

  -- what is unmarked behind r bytes that are no marks
  unmarked_on : (p : Place) (r : ℕ) → p.0 + r ≤ length s → ((j : ℕ) → p.0 ≤ j → j < p.0 + r → mark j ≡ false)
      → r + unmarked s (on_by r p) ≡ unmarked s p
  unfolding unmarked
  unmarked_on p r l none =
      omega (arith, first_skip mark r p.0 (length s) l none, first_from mark (length s - (p.0 + r)) (p.0 + r))

  -- THE LAW: in an accepted string the unmarked bytes from a place between characters on are raw characters
  module _ (o : ℕ) where
    raws : (k : ℕ) (h : List ℕ) (p : Place) (g : List ℕ) (v : Chars) → length s - p.0 < k
        → gather o Plain h (folded_from s p) ≡ bytes g v → Raw s p (unmarked s p)
    unfolding unmarked byte_at
    raws zero h p g v l e = absurd (omega arith)
    raws (suc k) h p g v l e =
        let a = accepted_char s o Plain h p g v e in
        go a.0 a.1 a.2 (is_mark (byte_at s p)) refl (λ r w q. raws k (h ++ take r (drop p.0 s)) (on_by r p) g v w q)
      where
        go : (c : ℕ) (n : Place) → folded_at s p ≡ Ok (Some (c, n)) → (t : Bool) → is_mark (byte_at s p) ≡ t
            → ((r : ℕ) → length s - (p.0 + r) < k → gather o Plain (h ++ take r (drop p.0 s)) (folded_from s (on_by r p)) ≡ bytes g v
            → Raw s (on_by r p) (unmarked s (on_by r p)))
            → Raw s p (unmarked s p)
        go c n here true u ih =
            let w = folded_onward s p c n here in
            let z : unmarked s p ≡ 0 = omega (arith, first_hit mark p.0 (length s) (omega arith) u) in
            rw z (raw_none s p)
        go c n here false u ih =
            let w = folded_onward s p c n here in
            let b = char_bare o h p g v e c n here u in
            let r = raw_one s p c n b.0 b.1 in
            let x = ih (n.0 - p.0) (omega arith) (sym ((r.comes o).same h) ∙ e) in
            rw (unmarked_on p (n.0 - p.0) (omega arith) (behind_unmarked p c n b.0 u)) at (raw_join s p _ _ r x)

    pub unmarked_raw : (h : List ℕ) (p : Place) (g : List ℕ) (v : Chars)
        → gather o Plain h (folded_from s p) ≡ bytes g v → Raw s p (unmarked s p)
    unmarked_raw h p g v e = raws (suc (length s - p.0)) h p g v (omega arith) e

-- an accepted string with room
roomy : (r : Gathered) (k : ℕ) → Roomy r k → (g : List ℕ) × (v : Chars) × (r ≡ bytes g v) × (length g ≤ k)
roomy (bytes g v) k l = (g, v, refl, l)
roomy (refused f) k l = absurd l

-- n bytes of the buffer v, which was b, are the value's first, gathered from p up to a place
pub record Poured (s : List ℕ) (o : ℕ) (p : Place) (b : List ℕ) (v : List ℕ) (at : Place) (n : ℕ) : Type 0 where
  pub same : gather o Plain [] (folded_from s p) ≡ gather o Plain (take n v) (folded_from s at)
  pub rest : drop n v ≡ drop n b
  pub fits : n ≤ length v
  pub long : length v ≡ length b

pub poured_none : (s : List ℕ) (o : ℕ) (p : Place) (b : List ℕ) → Poured s o p b b p 0
poured_none s o p b = record { same = refl; rest = refl; fits = omega arith; long = refl }

module _ (s : List ℕ) (o : ℕ) (p : Place) (b : List ℕ) (room : Roomy (gather o Plain [] (folded_from s p)) (length b))
    (v : List ℕ) (at : Place) (n : ℕ) (d : Poured s o p b v at n) where
  -- from here on the rule gathers the rest of the value
  here : (g : List ℕ) × (w : Chars) × (gather o Plain (take n v) (folded_from s at) ≡ bytes g w) × (length g ≤ length v)
  here =
      let r = roomy (gather o Plain [] (folded_from s p)) (length b) room in
      (r.0, r.1, sym d.same ∙ r.2, omega (arith, r.3, d.long))

  pub poured_capped : at.0 < cap
  poured_capped = (ended s o Plain (take n v) at here.0 here.1 tt here.2).capped

  front : length (take n v) ≡ n
  front = length-take-le n v d.fits

  -- the rest of the buffer
  abbrev rest_of : List ℕ
  rest_of = take (length v - n) (drop n v)

  left : length rest_of ≡ length v - n
  left = length-take-le (length v - n) (drop n v) (rw length-drop (omega arith))

  -- what comes next has room
  next_room : (xs : List ℕ) (m : Place) → Comes s o Plain at Plain xs m → n + length xs ≤ length v
  next_room xs m c =
      let r = ended s o Plain (take n v ++ xs) m here.0 here.1 tt (sym (c.same (take n v)) ∙ here.2) in
      omega (arith, r.grown, length-append (take n v) xs, front, here.3)

  -- and is stored
  next : (ys : List ℕ) (k : ℕ) (m : Place) → k ≤ length ys → Comes s o Plain at Plain (take k ys) m → Poured s o p b (paste v n ys k) m (n + k)
  next ys k m l c =
      let f : n + k ≤ length v = omega (arith, next_room (take k ys) m c, length-take-le k ys l) in
      let e : length (paste v n ys k) ≡ length v = length-paste v n ys k f l in
      record {
        same = d.same ∙ c.same (take n v) ∙ ap (λ (x : List ℕ). gather o Plain x (folded_from s m)) (sym (take-paste v n ys k d.fits l));
        rest = drop-paste v n ys k d.fits l ∙ rw (← drop-drop k n v, d.rest, drop-drop);
        fits = omega arith;
        long = e ∙ d.long;
      }

  -- the unmarked bytes
  pub poured_raw : Raw s at (unmarked s at)
  poured_raw = unmarked_raw s o (take n v) at here.0 here.1 here.2

  inside : unmarked s at ≤ length (drop at.0 s)
  inside = go (unmarked s at) poured_raw.inside
    where
      go : (k : ℕ) → (0 < k → at.0 + k ≤ length s) → k ≤ length (drop at.0 s)
      go zero i = omega arith
      go (suc k) i = rw length-drop (omega (arith, i (omega arith)))

  pub poured_room : unmarked s at ≤ length rest_of
  poured_room =
      let k = unmarked s at in
      omega (arith, next_room (take k (drop at.0 s)) (on_by k at) (poured_raw.comes o), length-take-le k (drop at.0 s) inside, left)

  -- the buffer with this at the front of its rest
  abbrev poured : List ℕ → List ℕ
  poured w = take n v ++ (w ++ drop (length v - n) (drop n v))

  pub poured_copy : (r : ℕ) (w : List ℕ) → (r, w) ≡ copied s at rest_of → Poured s o p b (poured w) (on_by r at) (n + r)
  unfolding copied
  poured_copy r w e =
      let k = unmarked s at in
      let l : length (take k (drop at.0 s)) ≡ k = length-take-le k (drop at.0 s) inside in
      let t : take k (take k (drop at.0 s)) ≡ take k (drop at.0 s) = rw l at (take-length (take k (drop at.0 s))) in
      rw (ap (λ (x : ℕ × List ℕ). x.0) e, ap (λ (x : ℕ × List ℕ). x.1) e, over_rest n v (take k (drop at.0 s)), l)
      (next (take k (drop at.0 s)) k (on_by k at) (omega arith) (rw t (poured_raw.comes o)))

  -- what an element adds
  pub poured_fits : (m : More) (q : Place) → Leads s o Plain at (Ok (Adds m q)) → length (added m) ≤ length rest_of
  poured_fits m q l = omega (arith, next_room (added m) q l.1, left)

  pub poured_put : (m : More) (q : Place) → Leads s o Plain at (Ok (Adds m q)) → (r : ℕ) (w : List ℕ) → (r, w) ≡ stored m rest_of
      → Poured s o p b (poured w) q (n + r)
  unfolding stored
  poured_put m q l r w e =
      rw (ap (λ (x : ℕ × List ℕ). x.0) e, ap (λ (x : ℕ × List ℕ). x.1) e, over_rest n v (added m))
      (next (added m) (length (added m)) q (omega arith) (rw take-length l.1))

  -- the closing quote; and nothing else can end it
  pub poured_close : (q : Place) → Leads s o Plain at (Ok (Closes q)) → v ≡ filled (gather o Plain [] (folded_from s p)) b
  unfolding filled
  poured_close q l = rw (d.same ∙ l.1 (take n v), front, ← d.rest) (sym (take-append-drop n v))

  pub poured_fail : (f : Refusal) → Leads s o Plain at (Err f) → ⊥
  poured_fail f l = not_refused (sym (l (take n v)) ∙ here.2)

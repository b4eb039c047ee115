-- The check of the gathered bytes as they come (`specs/inner/Checking.antt`): it says of them what their reading says, and a whole character passes it.
use Rattle.std.specs.Prelude.{if◌then◌else◌}
use Prim.Native.Nat.{ℕ, zero, suc, ◌≤◌, ◌<◌, ◌+◌, ◌-◌}
use mathlib.Core.Path.{◌≡◌, refl, sym, ap, ◌∙◌}
use mathlib.Core.Bool.{Bool, true, false, ◌&&◌, ◌||◌}
use mathlib.Core.List.{List, [], ◌∷◌, ◌++◌, append-nil}
use native.Mathlib.Omega.{arith}
use native.Mathlib.Numerals.{add-one}
use native.Mathlib.Nat.{add-zero}
use lib.Dec.{leb, eqb}
use lib.ListN.{length, get_or, drop, replicate, length-append, length-replicate, drop_of_length-le}
use lib.Seq.{drop-cons, drop_at}
use borrow.Author.Tests.{leb-true, leb-false, eqb-false}
use Rattle.terms.specs.Terms.{within}
use Rattle.terms.proofs.TestLaws.{within_true, within_below, within_above}
use Rattle.terms.proofs.TableLaws.{split}
use Rattle.answers.specs.Places.{place}
use Rattle.answers.specs.Caps.{cap}
use Rattle.chars.specs.Utf8.{byte_at, lead_of, is_tail, ill_at as ill_at_lem, char_by, char_at, is_scalar, encode}
use Rattle.chars.specs.View.{chars_from}
use Rattle.chars.specs.Utf8.{Read}
use Rattle.std.specs.Prelude.{None, Some, Ok, Err}
use Rattle.chars.specs.declared.Lead.{Lead}
use Rattle.chars.specs.declared.Lead.TheVariants.{Alone, Two, Three, Four, Never}
use Rattle.chars.proofs.Utf8Laws.{Lawful, lawful, byte_in, onward}
use Rattle.chars.proofs.ViewLaws.{chars_end, chars_ill, chars_char}
use Rattle.chars.proofs.EncodeLaws.{encode_one, encode_two, encode_three, encode_four}
use Rattle.chars.proofs.RoundTrip.{read_encode}
use Rattle.strings.specs.declared.Seen.{Seen}
use Rattle.strings.specs.declared.Seen.TheVariants.{Well, Part, Ill}
use Rattle.strings.specs.declared.More.{More}
use Rattle.strings.specs.declared.More.TheVariants.{One, Whole}
use Rattle.strings.specs.Strings.{added, ill_at, first_ill, judged}
use Rattle.strings.specs.inner.Checking.{part, started, went_on, feed, feeds, pass, took, verdict, Fair, Proper}

-- the check over a list: its two equations, and over two lists
feeds_cons : (n : ℕ) (t : Seen) (b : ℕ) (l : List ℕ) → feeds n t (b ∷ l) ≡ feeds (n + 1) (feed n t b) l
unfolding feeds
feeds_cons n t b l = refl

pub feeds_none : (n : ℕ) (t : Seen) → feeds n t [] ≡ t
unfolding feeds
feeds_none n t = refl

ill_stays : (n start : ℕ) (l : List ℕ) → feeds n (Ill start) l ≡ Ill start
unfolding feeds feed
ill_stays n start [] = refl
ill_stays n start (b ∷ l) = ill_stays (n + 1) start l

pub feeds_append : (n : ℕ) (t : Seen) (g h : List ℕ) → feeds n t (g ++ h) ≡ feeds (n + length g) (feeds n t g) h
unfolding feeds
feeds_append n t [] h = rw add-zero
feeds_append n t (b ∷ g) h =
    let e : n + 1 + length g ≡ n + suc (length g) = omega arith in
    feeds_append (n + 1) (feed n t b) g h ∙ ap (λ (k : ℕ). feeds k (feeds (n + 1) (feed n t b) g) h) e

-- a state that bytes lead to is fair
started_fair : (n b : ℕ) (l : Lead) → Lawful b l → Fair (started n l)
unfolding started
started_fair n b Alone h = tt
started_fair n b (Two low high) h = (h.2, h.3, omega arith)
started_fair n b (Three low high) h = (h.2, h.3, omega arith)
started_fair n b (Four low high) h = (h.2, h.3, omega arith)
started_fair n b Never h = tt

feed_fair : (n : ℕ) (t : Seen) (b : ℕ) → Fair t → Fair (feed n t b)
unfolding feed went_on
feed_fair n Well b f = started_fair n b (lead_of b) (lawful b (lead_of b) refl)
feed_fair n (Part r) b f = go (within r.low r.high b) (eqb r.left 1) refl
  where
    go : (t u : Bool) → eqb r.left 1 ≡ u → Fair (if t then (if u then Well else part r.start 0x80 0xBF (r.left - 1)) else Ill r.start)
    go true true e = tt
    go true false e = let i = eqb-false r.left 1 e in (omega arith, omega arith, omega arith)
    go false u e = tt
feed_fair n (Ill start) b f = tt

pub feeds_fair : (n : ℕ) (t : Seen) (g : List ℕ) → Fair t → Fair (feeds n t g)
unfolding feeds
feeds_fair n t [] f = f
feeds_fair n t (b ∷ g) f = feeds_fair (n + 1) (feed n t b) g (feed_fair n t b f)

module _ (g : List ℕ) where
  abbrev byte : ℕ → ℕ
  byte q = byte_at g (place q)

  next : (q q' : ℕ) → q + 1 ≡ q' → q < length g → drop q g ≡ byte q ∷ drop q' g
  unfolding byte_at
  next q q' e h = drop-cons g q 0 h ∙ ap (λ (k : ℕ). get_or g q 0 ∷ drop k g) (sym (add-one q) ∙ e)

  -- a sequence in progress at q: the byte there is none that it wants, is its last, or is one on the way
  module _ (start low high : ℕ) where
    at_no : (q left : ℕ) → within low high (byte q) ≡ false → verdict (feeds q (part start low high left) (drop q g)) ≡ ill_at start
    unfolding feed went_on verdict
    at_no q left e = go (leb (length g) q) refl
      where
        go : (t : Bool) → leb (length g) q ≡ t → verdict (feeds q (part start low high left) (drop q g)) ≡ ill_at start
        go true h = rw (drop_of_length-le g (leb-true _ _ h), feeds_none)
        go false h = rw (next q (q + 1) refl (leb-false _ _ h), feeds_cons, e, ill_stays (q + 1) start (drop (q + 1) g))

    module _ (q q' : ℕ) (onto : q + 1 ≡ q') (tail : 0x80 ≤ low) (e : within low high (byte q) ≡ true) where
      inside : q < length g
      inside = byte_in g (place q) (let w = within_true low high (byte q) e in omega arith)

      at_last : feeds q (part start low high 1) (drop q g) ≡ feeds q' Well (drop q' g)
      unfolding feed went_on
      at_last = rw (next q q' onto inside, feeds_cons, e, onto)

      at_on : (k : ℕ) → eqb k 1 ≡ false → feeds q (part start low high k) (drop q g) ≡ feeds q' (part start 0x80 0xBF (k - 1)) (drop q' g)
      unfolding feed went_on
      at_on k i = rw (next q q' onto inside, feeds_cons, e, i, onto)

  -- what one character, or what is none, does to the check
  abbrev Step : ℕ → Read → Type 0
  Step p (Ok None) = drop p g ≡ []
  Step p (Err i) = verdict (feeds p Well (drop p g)) ≡ ill_at i.at.0
  Step p (Ok (Some (c, n))) = feeds p Well (drop p g) ≡ feeds n.0 Well (drop n.0 g)

  module _ (p : ℕ) (h : p < length g) where
    begins : (l : Lead) → lead_of (byte p) ≡ l → feeds p Well (drop p g) ≡ feeds (p + 1) (started p l) (drop (p + 1) g)
    unfolding feed went_on
    begins l e = rw (next p (p + 1) refl h, feeds_cons, e)

    step : (l : Lead) → lead_of (byte p) ≡ l
        → Step p (char_by (place p) (byte p) (byte (p + 1)) (byte (p + 2)) (byte (p + 3)) l)
    unfolding char_by started is_tail verdict
    step Alone e = begins Alone e
    step (Two low high) e = go _ (within low high (byte (p + 1))) refl
      where
        go : (x : ℕ) (t : Bool) → within low high (byte (p + 1)) ≡ t → Step p (if t then Ok (Some (x, place (p + 2))) else ill_at_lem (place p))
        go x true a = begins _ e ∙ at_last p low high (p + 1) (p + 2) (omega arith) (lawful _ _ e).2 a
        go x false a = rw (begins _ e) (at_no p low high (p + 1) 1 a)
    step (Three low high) e = go _ (within low high (byte (p + 1))) (within 0x80 0xBF (byte (p + 2))) refl refl
      where
        second : within low high (byte (p + 1)) ≡ true → feeds p Well (drop p g) ≡ feeds (p + 2) (part p 0x80 0xBF 1) (drop (p + 2) g)
        second a = begins _ e ∙ at_on p low high (p + 1) (p + 2) (omega arith) (lawful _ _ e).2 a 2 refl

        go : (x : ℕ) (t u : Bool) → within low high (byte (p + 1)) ≡ t → within 0x80 0xBF (byte (p + 2)) ≡ u
            → Step p (if t && u then Ok (Some (x, place (p + 3))) else ill_at_lem (place p))
        go x true true a b = second a ∙ at_last p 0x80 0xBF (p + 2) (p + 3) (omega arith) (omega arith) b
        go x true false a b = rw (second a) (at_no p 0x80 0xBF (p + 2) 1 b)
        go x false u a b = rw (begins _ e) (at_no p low high (p + 1) 2 a)
    step (Four low high) e =
        go _ (within low high (byte (p + 1))) (within 0x80 0xBF (byte (p + 2))) (within 0x80 0xBF (byte (p + 3))) refl refl refl
      where
        second : within low high (byte (p + 1)) ≡ true → feeds p Well (drop p g) ≡ feeds (p + 2) (part p 0x80 0xBF 2) (drop (p + 2) g)
        second a = begins _ e ∙ at_on p low high (p + 1) (p + 2) (omega arith) (lawful _ _ e).2 a 3 refl

        third : within low high (byte (p + 1)) ≡ true → within 0x80 0xBF (byte (p + 2)) ≡ true
            → feeds p Well (drop p g) ≡ feeds (p + 3) (part p 0x80 0xBF 1) (drop (p + 3) g)
        third a b = second a ∙ at_on p 0x80 0xBF (p + 2) (p + 3) (omega arith) (omega arith) b 2 refl

        go : (x : ℕ) (t u v : Bool) → within low high (byte (p + 1)) ≡ t → within 0x80 0xBF (byte (p + 2)) ≡ u
            → within 0x80 0xBF (byte (p + 3)) ≡ v → Step p (if t && (u && v) then Ok (Some (x, place (p + 4))) else ill_at_lem (place p))
        go x true true true a b c = third a b ∙ at_last p 0x80 0xBF (p + 3) (p + 4) (omega arith) (omega arith) c
        go x true true false a b c = rw (third a b) (at_no p 0x80 0xBF (p + 3) 1 c)
        go x true false v a b c = rw (second a) (at_no p 0x80 0xBF (p + 2) 2 b)
        go x false u v a b c = rw (begins _ e) (at_no p low high (p + 1) 3 a)
    step Never e = ap verdict (begins Never e ∙ ill_stays (p + 1) p (drop (p + 1) g))

  -- where nothing is left that cannot be read
  steps : (p : ℕ) → (cap ≤ p → length g ≤ p) → Step p (char_at g (place p))
  unfolding char_at
  steps p fine = go (leb (length g) p) refl (leb cap p) refl
    where
      go : (t : Bool) → leb (length g) p ≡ t → (u : Bool) → leb cap p ≡ u
          → Step p (if t || u then Ok None else char_by (place p) (byte p) (byte (p + 1)) (byte (p + 2)) (byte (p + 3)) (lead_of (byte p)))
      go true h u k = drop_of_length-le g (leb-true _ _ h)
      go false h true k = drop_of_length-le g (fine (leb-true _ _ k))
      go false h false k = step p (leb-false _ _ h) (lead_of (byte p)) refl

  checks : length g ≤ cap → (k p : ℕ) → length g - p < k → first_ill (chars_from g (place p)) ≡ verdict (feeds p Well (drop p g))
  unfolding first_ill verdict
  checks short zero p h = absurd (omega arith)
  checks short (suc k) p h = go (char_at g (place p)) refl (steps p (λ l. omega arith)) (checks short k)
    where
      go : (r : Read) → char_at g (place p) ≡ r → Step p r
          → ((n : ℕ) → length g - n < k → first_ill (chars_from g (place n)) ≡ verdict (feeds n Well (drop n g)))
          → first_ill (chars_from g (place p)) ≡ verdict (feeds p Well (drop p g))
      go (Ok None) e s ih = rw (chars_end g (place p) e, s, feeds_none)
      go (Err i) e s ih = rw (chars_ill g (place p) i e) (sym s)
      go (Ok (Some (c, n))) e s ih = rw (chars_char g (place p) c n e, s) (ih n.0 (let o = onward g (place p) c n e in omega arith))

-- THE THEOREM: fed byte by byte, the check says of the bytes what their reading says
pub checked : (g : List ℕ) → length g ≤ cap → judged g ≡ verdict (feeds 0 Well g)
unfolding judged
checked g short = checks g short (suc (length g)) 0 (omega arith)

-- the bytes of a character, behind n others that are well-formed
module _ (n c : ℕ) (k : n < cap) (y : is_scalar c ≡ true) where
  abbrev before : List ℕ
  before = replicate n 0

  long : length before ≡ n
  long = length-replicate {A = ℕ} n 0

  abbrev text : List ℕ
  text = before ++ (encode c ++ [])

  front : drop n text ≡ encode c
  front = rw append-nil (drop_at before (encode c) n long)

  short : length text ≤ n + length (encode c)
  short = rw (append-nil, length-append before (encode c), long) (omega arith)

  reads : char_at text (place n) ≡ Ok (Some (c, place (n + length (encode c))))
  reads =
      let l : length before < cap = rw long k in
      rw long at (read_encode before [] c l y)

  well : feeds n Well (encode c) ≡ Well
  well =
      let s : feeds n Well (drop n text) ≡ feeds (n + length (encode c)) Well (drop (n + length (encode c)) text) =
      rw reads at (steps text n (λ l. absurd (omega arith))) in
      rw (front, drop_of_length-le text short, feeds_none) at s

-- in a sequence in progress
module _ (n start low high left : ℕ) where
  ends : (b : ℕ) (l : List ℕ) → within low high b ≡ false → feeds n (part start low high left) (b ∷ l) ≡ Ill start
  unfolding feeds feed went_on
  ends b l e = rw e (ill_stays (n + 1) start l)

  broken : (c : ℕ) → 0x80 ≤ low → high ≤ 0xBF → feeds n (part start low high left) (encode c) ≡ Ill start
  broken c f g =
      split 0x7F c (λ h. rw (encode_one c h) (ends _ _ (within_below low high _ (omega arith)))) (λ i.
      split 0x7FF c (λ h. rw (encode_two c i h) (ends _ _ (within_above low high _ (omega arith)))) (λ j.
      split 0xFFFF c (λ h. rw (encode_three c j h) (ends _ _ (within_above low high _ (omega arith))))
      (λ k. rw (encode_four c k) (ends _ _ (within_above low high _ (omega arith))))))

-- THE LAW of a whole character
pub passes : (n : ℕ) (t : Seen) (c : ℕ) → n < cap → is_scalar c ≡ true → Fair t → feeds n t (encode c) ≡ pass t
unfolding pass
passes n Well c k y f = well n c k y
passes n (Part r) c k y f = broken n r.start r.low r.high r.left c f.0 f.1
passes n (Ill start) c k y f = ill_stays n start (encode c)

pub pass_twice : (t : Seen) → pass (pass t) ≡ pass t
unfolding pass
pass_twice Well = refl
pass_twice (Part r) = refl
pass_twice (Ill start) = refl

pub pass_fair : (t : Seen) → Fair t → Fair (pass t)
unfolding pass
pass_fair Well f = tt
pass_fair (Part r) f = tt
pass_fair (Ill start) f = tt

-- what a turn adds, in the check's terms
pub took_is : (n : ℕ) (t : Seen) (m : More) → n < cap → Proper m → Fair t → feeds n t (added m) ≡ took n t m
unfolding added took feeds
took_is n t (One b) k p f = refl
took_is n t (Whole c) k p f = passes n t c k p f

-- Decoding in the terms of its two walks: what a span spells by what the string rule answers, and what is answered then.
use Rattle.std.specs.Prelude.{if◌then◌else◌}
use Prim.Native.Nat.{ℕ, ◌≤◌, ◌<◌, ◌+◌, ◌-◌}
use mathlib.Core.Path.{◌≡◌, refl, ap, ◌∙◌}
use mathlib.Core.Bool.{Bool, true, false, ◌&&◌}
use mathlib.Core.List.{List, []}
use native.Mathlib.Omega.{arith}
use Rattle.std.specs.Bool.{then_some}
use Rattle.std.specs.Result.{result_ok}
use lib.Dec.{leb, eqb}
use lib.ListN.{length}
use borrow.Author.Tests.{le-leb, lt-leb, leb-true, eq-eqb, ne_eqb, eqb-true}
use Rattle.terms.proofs.TestLaws.{and_both}
use Rattle.answers.specs.declared.Place.{Place}
use Rattle.answers.specs.declared.Position.{Position}
use Rattle.answers.specs.declared.Span.{Span}
use Rattle.answers.specs.declared.Refusal.{Refusal}
use Rattle.answers.specs.declared.Refusal.TheVariants.{BadSpan, NoRoom}
use Rattle.std.specs.Prelude.{None, Some, Result, Ok, Err}
use Rattle.answers.specs.Places.{place}
use Rattle.answers.specs.Caps.{accepted as passed, text_verdict}
use Rattle.chars.specs.Utf8.{byte_at}
use Rattle.chars.specs.View.{Chars, place_of, folded_from}
use Rattle.chars.proofs.Utf8Laws.{byte_in}
use Rattle.strings.specs.declared.Inside.TheVariants.{Plain}
use Rattle.strings.specs.declared.Literal.{Literal}
use Rattle.strings.specs.Strings.{Gathered, bytes, refused, gather}
use Rattle.strings.specs.Strings.{Judged, whole, ill_at, judged, closed_by, literal_of, string_literal}
use Rattle.strings.specs.Decoding.{Spelt, spelt, none, well_spelt, ending_at, spelling, storing, decoded_by, decoded}
use Rattle.strings.specs.inner.Writing.{measured, Roomy, filled}
use Rattle.strings.proofs.StringLaws.{accepted}

-- what a span spells
module _ (s : List ℕ) (o : ℕ) (span : Span) where
  abbrev quote : ℕ
  quote = byte_at s (place (span.start.0 - o))

  abbrev behind : Place
  behind = place (span.start.0 - o + 1)

  pub spelt_early : span.start.0 < o → spelling s o span ≡ none
  unfolding spelling
  spelt_early l = rw (lt-leb _ _ l)

  -- where it starts, the text has a place
  module _ (at : ℕ) (p : (o ≤ span.start.0) × (at ≡ span.start.0 - o)) where
    pub spelt_elsewhere : (byte_at s (place at) ≡ 0x22 → ⊥) → spelling s o span ≡ none
    unfolding spelling
    spelt_elsewhere e = let f : quote ≡ 0x22 → ⊥ = rw p.1 at e in rw (le-leb _ _ p.0, ne_eqb _ _ f)

    module _ (e : byte_at s (place at) ≡ 0x22) (q : Position) where
      from_quote : spelling s o span ≡ ending_at o span.end (gather o Plain [] (folded_from s (place (at + 1))))
      unfolding spelling
      from_quote = let f : quote ≡ 0x22 = rw p.1 at e in rw (le-leb _ _ p.0, eq-eqb _ _ f, ← p.1)

      pub spelt_refused : result_ok (string_literal s o q (place (at + 1))) ≡ None → spelling s o span ≡ none
      unfolding string_literal literal_of closed_by ending_at well_spelt
      spelt_refused d = from_quote ∙ go (gather o Plain [] (folded_from s (place (at + 1)))) d
        where
          judge : (t : Bool) (g : List ℕ) (m : Place) (j : Judged) → result_ok (closed_by q (length g) j m) ≡ None
              → (if t then well_spelt j g else none) ≡ none
          judge t g m whole d = cc
          judge true g m (ill_at k) d = refl
          judge false g m (ill_at k) d = refl

          go : (r : Gathered) → result_ok (literal_of q r) ≡ None → ending_at o span.end r ≡ none
          go (bytes g v) d = judge (eqb (o + (place_of v).0) span.end.0) g (place_of v) (judged g) d
          go (refused k) d = refl

      module _ (l : Literal) (d : result_ok (string_literal s o q (place (at + 1))) ≡ Some l) where
        closed : (r : Result Literal Refusal) → result_ok r ≡ Some l → r ≡ Ok l
        closed (Ok m) e = cc
        closed (Err f) e = cc

        closed_at : (t : Bool) → eqb (o + l.end.0) span.end.0 ≡ t
            → spelling s o span ≡ (if t then spelt (accepted s o q (place (at + 1)) l (closed _ d)).value else none)
        unfolding ending_at well_spelt
        closed_at t k =
            let a = accepted s o q (place (at + 1)) l (closed _ d) in
            from_quote ∙ rw (a.gathered, a.behind, a.well, k)

        pub spelt_then : then_some (eqb (o + l.end.0) span.end.0) l.count ≡ measured (spelling s o span)
        unfolding measured
        spelt_then = go (eqb (o + l.end.0) span.end.0) refl
          where
            go : (t : Bool) → eqb (o + l.end.0) span.end.0 ≡ t → then_some t l.count ≡ measured (spelling s o span)
            go true k = rw (closed_at true k, (accepted s o q (place (at + 1)) l (closed _ d)).counted)
            go false k = rw (closed_at false k)

  -- where a span spells something, it starts at a quote of the text, from which that is gathered
  pub record Spells (g : List ℕ) : Type 0 where
    pub placed : o ≤ span.start.0
    pub inside : span.start.0 - o < length s
    pub left : Chars
    pub gathered : gather o Plain [] (folded_from s behind) ≡ bytes g left

  pub spells : (g : List ℕ) → spelling s o span ≡ spelt g → Spells g
  unfolding spelling ending_at well_spelt
  spells g e = start (leb o span.start.0 && eqb quote 0x22) refl e
    where
      not_none : none ≡ spelt g → ⊥
      not_none e = let z : ◌≡◌ {A = ℕ} 0 1 = cc in omega arith

      -- the rule is accepted, and what it gathers is spelt
      judge : (t : Bool) (h : List ℕ) (j : Judged) → (if t then well_spelt j h else none) ≡ spelt g → h ≡ g
      judge true h whole e = cc
      judge true h (ill_at k) e = cc
      judge false h j e = cc

      go : (r : Gathered) → ending_at o span.end r ≡ spelt g → (v : Chars) × (r ≡ bytes g v)
      go (bytes h v) e = (v, ap (λ (x : List ℕ). bytes x v) (judge (eqb (o + (place_of v).0) span.end.0) h (judged h) e))
      go (refused f) e = absurd (not_none e)

      start : (t : Bool) → (leb o span.start.0 && eqb quote 0x22) ≡ t
          → (if t then ending_at o span.end (gather o Plain [] (folded_from s behind)) else none) ≡ spelt g → Spells g
      start true t e =
          let b = and_both (leb o span.start.0) (eqb quote 0x22) t in
          let r = go (gather o Plain [] (folded_from s behind)) e in
          let k = eqb-true quote 0x22 b.1 in
          record {
            placed = leb-true _ _ b.0;
            inside = byte_in s (place (span.start.0 - o)) (omega arith);
            left = r.0;
            gathered = r.1;
          }
      start false t e = absurd (not_none e)

-- what the first walk answers
pub measured_none : (t : Spelt) → t ≡ none → None ≡ measured t
unfolding measured
measured_none t e = rw e

pub measured_refused : (t : Spelt) → measured t ≡ None → t ≡ none
unfolding measured
measured_refused (spelt g) e = cc
measured_refused none e = refl

pub measured_value : (t : Spelt) (n : ℕ) → measured t ≡ Some n → (g : List ℕ) × (t ≡ spelt g) × (length g ≡ n)
unfolding measured
measured_value (spelt g) n e = (g, refl, cc)
measured_value none n e = absurd (let z : ◌≡◌ {A = ℕ} 0 1 = cc in omega arith)

-- what decoding answers
module _ (s : List ℕ) (o : ℕ) (span : Span) (b : List ℕ) where
  pub decoded_refused : (f : Refusal) → text_verdict o (length s) ≡ Err f → decoded s o span b ≡ (Err f, b)
  unfolding decoded decoded_by
  decoded_refused f e = rw e

  module _ (passes : text_verdict o (length s) ≡ passed) where
    stores : decoded s o span b ≡ storing (spelling s o span) b
    unfolding decoded decoded_by
    stores = rw passes

    pub decoded_nothing : measured (spelling s o span) ≡ None → decoded s o span b ≡ (Err BadSpan, b)
    unfolding storing
    decoded_nothing e = stores ∙ rw (measured_refused (spelling s o span) e)

    module _ (n : ℕ) (e : measured (spelling s o span) ≡ Some n) where
      abbrev value : List ℕ
      value = (measured_value (spelling s o span) n e).0

      pub spelled : Spells s o span value
      spelled = spells s o span value (measured_value (spelling s o span) n e).1

      counted : length value ≡ n
      counted = (measured_value (spelling s o span) n e).2

      stored : decoded s o span b ≡ storing (spelt value) b
      stored = stores ∙ rw (measured_value (spelling s o span) n e).1

      pub decoded_short : length b < n → decoded s o span b ≡ (Err (NoRoom n), b)
      unfolding storing
      decoded_short l = stored ∙ rw (counted, lt-leb _ _ l)

      pub room : n ≤ length b → Roomy (gather o Plain [] (folded_from s (place (span.start.0 - o + 1)))) (length b)
      room l = rw spelled.gathered (omega (arith, counted))

      pub decoded_value : n ≤ length b → decoded s o span b ≡ (Ok n, filled (gather o Plain [] (folded_from s (place (span.start.0 - o + 1)))) b)
      unfolding storing filled
      decoded_value l = stored ∙ rw (spelled.gathered, counted, le-leb _ _ l)

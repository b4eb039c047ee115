-- The loop of the string rule: what it has come to, its steps, and what it answers.
use Prim.Native.Nat.{ℕ, ◌≤◌, ◌<◌, ◌+◌}
use mathlib.Core.Path.{◌≡◌, refl, ◌∙◌}
use mathlib.Core.List.{List, [], ◌++◌}
use native.Mathlib.Omega.{arith}
use native.Mathlib.Nat.{zero-add}
use lib.ListN.{length, take, drop, length-append, length-drop}
use lib.Seq.{length-take-le}
use Rattle.answers.specs.declared.Place.{Place}
use Rattle.answers.specs.declared.Position.{Position}
use Rattle.answers.specs.declared.Refusal.{Refusal}
use Rattle.chars.specs.Utf8.{on_by}
use Rattle.chars.specs.View.{folded_from}
use Rattle.chars.proofs.ViewLaws.{folded_place}
use Rattle.strings.specs.declared.Inside.TheVariants.{Plain}
use Rattle.strings.specs.declared.More.{More}
use Rattle.strings.specs.declared.Seen.{Seen}
use Rattle.strings.specs.declared.Seen.TheVariants.{Well}
use Rattle.strings.specs.declared.Element.TheVariants.{Adds, Close}
use Rattle.std.specs.Prelude.{Ok, Err}
use Rattle.strings.specs.Strings.{added, bytes, refused, gather, judged, closed_by, literal_of, string_literal}
use Rattle.strings.specs.inner.Checking.{feeds, pass, took, verdict, Fair}
use Rattle.strings.specs.inner.Walking.{Comes, Leads, Raw}
use Rattle.strings.proofs.CheckingLaws.{feeds_none, feeds_append, feeds_fair, checked, took_is}
use Rattle.strings.proofs.TurnLaws.{comes_none, comes_on}

-- some bytes are gathered, of which the code keeps the count and what the check knows
pub record Reached (s : List ℕ) (o : ℕ) (p at : Place) (count : ℕ) (seen : Seen) : Type 0 where
  pub gathered : List ℕ
  pub comes : Comes s o Plain p Plain gathered at
  pub counted : length gathered ≡ count
  pub known : feeds 0 Well gathered ≡ seen

pub reached_none : (s : List ℕ) (o : ℕ) (p : Place) → Reached s o p p 0 Well
reached_none s o p = record { gathered = []; comes = comes_none s o Plain p; counted = refl; known = feeds_none 0 Well }

module _ (s : List ℕ) (o : ℕ) (p at : Place) (count : ℕ) (seen : Seen) (r : Reached s o p at count seen) where
  pub reached_fair : Fair seen
  reached_fair = rw r.known at (feeds_fair 0 Well r.gathered tt)

  -- no more is gathered than is passed
  pub reached_paid : p.0 + count ≤ at.0
  reached_paid = omega (arith, r.comes.paid, r.counted)

  -- more bytes, in the check's terms
  knows : (g : List ℕ) (t : Seen) → feeds count seen g ≡ t → feeds 0 Well (r.gathered ++ g) ≡ t
  knows g t e =
      feeds_append 0 Well r.gathered g ∙ rw (zero-add, r.known, r.counted) e

  pub reached_run : (k : ℕ) → Raw s at k → 0 < k → Reached s o p (on_by k at) (count + k) (pass seen)
  reached_run k w z =
      let run = take k (drop at.0 s) in
      let long : length run ≡ k = length-take-le k (drop at.0 s) (rw length-drop (omega (arith, w.inside z))) in
      record {
        gathered = r.gathered ++ run;
        comes = comes_on s o Plain Plain Plain p at (on_by k at) r.gathered run r.comes (w.comes o);
        counted = omega (arith, length-append r.gathered run, r.counted);
        known = knows run (pass seen) (w.passes count seen (omega (arith, reached_paid)) reached_fair z);
      }

  pub reached_adds : (m : More) (n : Place) → Leads s o Plain at (Ok (Adds m n)) → Reached s o p n (count + length (added m)) (took count seen m)
  reached_adds m n l = record {
    gathered = r.gathered ++ added m;
    comes = comes_on s o Plain Plain Plain p at n r.gathered (added m) r.comes l.1;
    counted = omega (arith, length-append r.gathered (added m), r.counted);
    known = knows (added m) (took count seen m) (took_is count seen m (omega (arith, reached_paid, l.0.capped)) l.2 reached_fair);
  }

  pub reached_close : (q : Position) (n : Place) → Leads s o Plain at (Ok (Close n)) → string_literal s o q p ≡ closed_by q count (verdict seen) n
  unfolding string_literal literal_of
  reached_close q n l =
      let e : gather o Plain [] (folded_from s p) ≡ bytes r.gathered (folded_from s n) = r.comes.same [] ∙ l.1 r.gathered in
      let j : judged r.gathered ≡ verdict seen = checked r.gathered (omega (arith, reached_paid, r.counted, l.0.capped)) ∙ rw r.known in
      rw (e, j, folded_place s n, r.counted)

  pub reached_fail : (q : Position) (f : Refusal) → Leads s o Plain at (Err f) → string_literal s o q p ≡ Err f
  unfolding string_literal literal_of
  reached_fail q f l =
      let e : gather o Plain [] (folded_from s p) ≡ refused f = r.comes.same [] ∙ l r.gathered in rw e

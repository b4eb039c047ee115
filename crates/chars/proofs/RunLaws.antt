-- A run of bytes of one set is as many characters, of one byte each.
use Rattle.std.specs.Prelude.{if◌then◌else◌}
use Prim.Native.Nat.{ℕ, ◌-◌, ◌/◌, ◌%◌, ◌^◌, ◌≤◌, ◌<◌, min}
use mathlib.Core.Path.{◌≡◌, refl}
use mathlib.Core.Bool.{Bool, true, false, not, ◌||◌}
use mathlib.Core.List.{List}
use native.Mathlib.Omega.{arith}
use lib.Dec.{ltb, eqb}
use lib.ListN.{length}
use borrow.Author.Tests.{ltb-true, not-true, not-false}
use Rattle.terms.proofs.TestLaws.{clash}
use Rattle.terms.proofs.BelowLaws.{all_below, below}
use Rattle.terms.proofs.FirstLaws.{first_le, first_from, first_passes}
use Rattle.answers.specs.declared.Place.{Place}
use Rattle.answers.specs.Caps.{cap}
use Rattle.chars.specs.Utf8.{byte_at, on_by, char_at}
use Rattle.chars.specs.View.{folded_at}
use Rattle.chars.specs.inner.Runs.{in_set, stops_at, run_end}
use Rattle.chars.specs.declared.AsciiSet.{AsciiSet}
use Rattle.std.specs.Prelude.{Some, Ok}
use Rattle.chars.proofs.Utf8Laws.{ascii_at_lem}
use Rattle.chars.proofs.ViewLaws.{folded_ascii_at}
use Rattle.chars.proofs.SeekLaws.{seek_steps}

-- the bytes of a set are below 0x80
pub in_set_low : (set : AsciiSet) (b : ℕ) → in_set set b ≡ true → b < 0x80
unfolding in_set
in_set_low set b e = go (ltb b 64) refl (ltb b 128) refl e
  where
    go : (t : Bool) → ltb b 64 ≡ t → (u : Bool) → ltb b 128 ≡ u
        → (if t then eqb (set.low / 2 ^ b % 2) 1 else (if u then eqb (set.high / 2 ^ (b - 64) % 2) 1 else false)) ≡ true → b < 0x80
    go true h u g e = let z = ltb-true b 64 h in omega arith
    go false h true g e = ltb-true b 128 g
    go false h false g e = absurd (clash false e refl)

-- where a run ends: not before its start, and within the text
module _ (s : List ℕ) (set : AsciiSet) (p : Place) where
  pub run_beyond : p.0 ≤ (run_end s set p).0
  unfolding run_end
  run_beyond = first_from (stops_at s set) (min (length s) cap - p.0) p.0

  pub run_inside : p.0 ≤ length s → (run_end s set p).0 ≤ length s
  unfolding run_end
  run_inside h = omega (arith, first_le (stops_at s set) (min (length s) cap - p.0) p.0)

  -- the byte that ends a run is not of the set
  pub run_stops : (run_end s set p).0 < length s → (run_end s set p).0 < cap → in_set set (byte_at s (run_end s set p)) ≡ false
  unfolding run_end byte_at
  run_stops h k =
      not-true _ (first_passes (stops_at s set) (min (length s) cap - p.0) p.0
      (omega (arith, first_from (stops_at s set) (min (length s) cap - p.0) p.0)))

  -- THE LAW: what no byte of the set changes, the whole run does not change
  run_steps : {A : Type 0} (F : Place → A)
      → ((q : Place) → in_set set (byte_at s q) ≡ true → q.0 < length s → q.0 < cap → F q ≡ F (on_by 1 q)) → F p ≡ F (run_end s set p)
  unfolding run_end byte_at
  run_steps F one =
      seek_steps (stops_at s set) F p (min (length s) cap - p.0) (λ i l e. one (on_by i p) (not-false _ e) (omega arith) (omega arith))

  -- with each byte as the character that it is, as the text stands
  pub run_strides_plain : {A : Type 0} (F : Place → A)
      → ((q : Place) → in_set set (byte_at s q) ≡ true → char_at s q ≡ Ok (Some (byte_at s q, on_by 1 q)) → F q ≡ F (on_by 1 q))
      → F p ≡ F (run_end s set p)
  run_strides_plain F one = run_steps F (λ q m h k. one q m (ascii_at_lem s q h k (in_set_low set _ m)))

  -- and folded, where the set has no carriage return
  pub run_strides : {A : Type 0} (F : Place → A) → in_set set 13 ≡ false
      → ((q : Place) → in_set set (byte_at s q) ≡ true → folded_at s q ≡ Ok (Some (byte_at s q, on_by 1 q)) → F q ≡ F (on_by 1 q))
      → F p ≡ F (run_end s set p)
  run_strides F no_cr one =
      run_steps F (λ q m h k. one q m (folded_ascii_at s q h k (in_set_low set _ m) (λ e. clash (in_set set 13) (rw (← e) m) no_cr)))

-- a fact about every byte of a set is computed once, over the 128 bytes that a set may have
pub each_of_set : (set : AsciiSet) (test : ℕ → Bool) → all_below 128 (λ b. not (in_set set b) || test b) ≡ true
    → (b : ℕ) → in_set set b ≡ true → test b ≡ true
each_of_set set test all b h = go (in_set set b) h (below 128 (λ (x : ℕ). not (in_set set x) || test x) all b (in_set_low set b h))
  where
    go : (t : Bool) → t ≡ true → (not t || test b) ≡ true → test b ≡ true
    go true e w = w
    go false e w = absurd (clash false e refl)

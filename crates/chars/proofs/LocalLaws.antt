-- What is seen from a place on depends only on the text from there on.
use Prim.Native.Nat.{ℕ, zero, suc, ◌≤◌, ◌+◌, ◌-◌}
use mathlib.Core.Path.{◌≡◌, refl, sym, ap, ◌∙◌}
use mathlib.Core.List.{List}
use native.Mathlib.Omega.{arith}
use lib.ListN.{length, drop}
use lib.Seq.{get_or-drop}
use Rattle.answers.specs.declared.Place.{Place}
use Rattle.chars.specs.Utf8.{byte_at, on_by, char_at}
use Rattle.chars.specs.View.{char, seen_at, seen_by, folded, folded_at, folded_from}
use Rattle.chars.specs.Utf8.{Read}
use Rattle.std.specs.Prelude.{None, Some, Ok, Err}
use Rattle.chars.proofs.Utf8Laws.{onward}
use Rattle.chars.proofs.ViewLaws.{folded_onward}

-- two texts that are as long, and the same from a place on
pub record Alike (from : Place) (s t : List ℕ) : Type 0 where
  pub as_long : length s ≡ length t
  pub rest : drop from.0 s ≡ drop from.0 t

module _ (from : Place) (s t : List ℕ) (a : Alike from s t) where
  byte_alike : (q : Place) → from.0 ≤ q.0 → byte_at s q ≡ byte_at t q
  unfolding byte_at
  byte_alike q l =
      let e : from.0 + (q.0 - from.0) ≡ q.0 = omega arith in
      rw (← e) (sym (get_or-drop from.0 s (q.0 - from.0) 0) ∙ rw a.rest (get_or-drop from.0 t (q.0 - from.0) 0))

  char_alike : (q : Place) → from.0 ≤ q.0 → char_at s q ≡ char_at t q
  unfolding char_at
  char_alike q l =
      rw (a.as_long, byte_alike q l, byte_alike (on_by 1 q) (omega arith), byte_alike (on_by 2 q) (omega arith), byte_alike (on_by 3 q) (omega arith))

  folded_alike : (q : Place) → from.0 ≤ q.0 → folded_at s q ≡ folded_at t q
  unfolding folded_at folded
  folded_alike q l = rw (← char_alike q l) (go (char_at s q) refl)
    where
      go : (r : Read) → char_at s q ≡ r → folded s r ≡ folded t r
      go (Ok None) e = refl
      go (Err i) e = refl
      go (Ok (Some (c, n))) e = let o = onward s q c n e in rw (byte_alike n (omega (arith, o.beyond)))

  seen_alike : (k : ℕ) (q : Place) → from.0 ≤ q.0 → seen_by (folded_at s) k q ≡ seen_by (folded_at t) k q
  unfolding seen_by seen_at
  seen_alike zero q l = refl
  seen_alike (suc k) q l = rw (← folded_alike q l) (go (folded_at s q) refl (seen_alike k))
    where
      go : (r : Read) → folded_at s q ≡ r → ((n : Place) → from.0 ≤ n.0 → seen_by (folded_at s) k n ≡ seen_by (folded_at t) k n)
          → seen_at q r (seen_by (folded_at s) k) ≡ seen_at q r (seen_by (folded_at t) k)
      go (Ok None) e ih = refl
      go (Err i) e ih = refl
      go (Ok (Some (c, n))) e ih = let o = folded_onward s q c n e in ap (char q c) (ih n (omega (arith, o.beyond)))

  pub view_alike : (q : Place) → from.0 ≤ q.0 → folded_from s q ≡ folded_from t q
  unfolding folded_from
  view_alike q l = rw (← a.as_long) (seen_alike (suc (length s - q.0)) q l)

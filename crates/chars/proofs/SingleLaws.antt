-- A place where a byte reads as itself is one character.
use Rattle.std.specs.Prelude.{if◌then◌else◌}
use Prim.Native.Nat.{ℕ, ◌<◌}
use mathlib.Core.Path.{◌≡◌, refl}
use mathlib.Core.Bool.{Bool, true, false, not, ◌&&◌, ◌||◌}
use mathlib.Core.List.{List}
use lib.Dec.{leb, ltb, eqb}
use lib.ListN.{length}
use borrow.Author.Tests.{ltb-true, leb-false, eqb-false, not-true}
use Rattle.terms.proofs.TestLaws.{and_both, clash}
use Rattle.answers.specs.declared.Place.{Place}
use Rattle.answers.specs.Caps.{cap}
use Rattle.chars.specs.Utf8.{byte_at, on_by}
use Rattle.chars.specs.View.{folded_at}
use Rattle.chars.specs.inner.Single.{single_at}
use Rattle.std.specs.Prelude.{Some, Ok}
use Rattle.chars.proofs.ViewLaws.{folded_ascii_at}

-- a byte that reads as itself
pub record Single (s : List ℕ) (p : Place) : Type 0 where
  pub inside : p.0 < length s
  pub capped : p.0 < cap
  pub low : byte_at s p < 0x80
  pub no_cr : byte_at s p ≡ 13 → ⊥

pub single_is : (s : List ℕ) (p : Place) → single_at s p ≡ true → Single s p
unfolding single_at
single_is s p e = go (leb (length s) p.0) refl (leb cap p.0) refl e
  where
    go : (t : Bool) → leb (length s) p.0 ≡ t → (u : Bool) → leb cap p.0 ≡ u
        → (if t || u then false else not (eqb (byte_at s p) 13) && ltb (byte_at s p) 0x80) ≡ true → Single s p
    go true h u g e = absurd (clash false e refl)
    go false h true g e = absurd (clash false e refl)
    go false h false g e =
        let b = and_both (not (eqb (byte_at s p) 13)) (ltb (byte_at s p) 0x80) e in
        record { inside = leb-false _ _ h; capped = leb-false _ _ g; low = ltb-true _ _ b.1; no_cr = eqb-false _ _ (not-true _ b.0) }

pub single_stands : (s : List ℕ) (p : Place) → single_at s p ≡ true → folded_at s p ≡ Ok (Some (byte_at s p, on_by 1 p))
single_stands s p e = let i = single_is s p e in folded_ascii_at s p i.inside i.capped i.low i.no_cr

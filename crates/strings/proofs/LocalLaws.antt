-- A string depends only on the text from its place on.
use Prim.Native.Nat.{ℕ, ◌≤◌}
use mathlib.Core.Path.{◌≡◌}
use mathlib.Core.List.{List}
use Rattle.answers.specs.declared.Place.{Place}
use Rattle.answers.specs.declared.Position.{Position}
use Rattle.chars.proofs.LocalLaws.{Alike, view_alike}
use Rattle.strings.specs.Strings.{string_literal}

pub literal_alike : (from : Place) (s t : List ℕ) → Alike from s t → (o : ℕ) (q : Position) (p : Place) → from.0 ≤ p.0
    → string_literal s o q p ≡ string_literal t o q p
unfolding string_literal
literal_alike from s t a o q p l = rw (view_alike from s t a p l)

-- Plain text, which opening and comments pass over at once. `proofs/PlainLaws.antt` ties it to the view.
use Rattle.std.specs.Prelude.{ℕ, ◌-◌, min, Bool, not, ◌||◌, List, length, get_or, eqb}
use Rattle.terms.specs.Terms.{within, first, member}
use Rattle.answers.specs.declared.Place.{Place}
use Rattle.answers.specs.Places.{place}
use Rattle.answers.specs.Caps.{cap}

-- A byte that is a character by itself, and that screening lets pass.
unfoldable pub is_plain : ℕ → Bool
is_plain b = within 0x20 0x7E b || (eqb b 9 || (eqb b 10 || eqb b 13))

-- A byte at which plain text less some bytes ends.
unfoldable pub halts : List ℕ → ℕ → Bool
halts less b = member b less || not (is_plain b)

-- The byte at i is one.
abbrev pub halts_at : List ℕ → List ℕ → ℕ → Bool
halts_at s less i = halts less (get_or s i 0)

-- The first place from p on whose byte is one of those or not plain, or the end.
unfoldable pub plain_end : List ℕ → List ℕ → Place → Place
plain_end s less p = place (first (halts_at s less) p.0 (min (length s) cap - p.0))

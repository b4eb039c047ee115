-- Places in the source and positions in the map: two kinds of number, and the one way from the first to the second.
use Rattle.std.specs.Prelude.{ℕ, ◌+◌, ◌%◌, ◌^◌}
use Rattle.answers.specs.declared.Place.{Place}
use Rattle.answers.specs.declared.Position.{Position}

-- A number of bytes from the text's start, as a place.
abbrev pub place : ℕ → Place
place p = record { 0 = p }

-- The position of a place in a text that stands at this offset in the map. Past refusal 2 the sum is a 32-bit number as it stands.
unfoldable pub in_map : ℕ → Place → Position
in_map offset p = record { 0 = (offset + p.0) % 2 ^ 32 }

-- Places where a byte reads as itself. `proofs/SingleLaws.antt` ties them to the view.
use Rattle.std.specs.Prelude.{ℕ, Bool, false, not, ◌&&◌, ◌||◌, List, length, leb, ltb, eqb, if◌then◌else◌}
use Rattle.answers.specs.declared.Place.{Place}
use Rattle.answers.specs.Caps.{cap}
use Rattle.chars.specs.Utf8.{byte_at}

-- What stands at a place is one byte below 0x80 that is no carriage return.
unfoldable pub single_at : List ℕ → Place → Bool
single_at s p =
    if leb (length s) p.0 || leb cap p.0 then false
    else not (eqb (byte_at s p) 13) && ltb (byte_at s p) 0x80

-- Runs of bytes of one set: what the rooms above pass over at once. No public contract there cites it; `run_strides` (proofs/RunLaws.antt) ties it to the view.
use Rattle.std.specs.Prelude.{ℕ, ◌-◌, ◌/◌, ◌%◌, ◌^◌, min, Bool, false, not, List, length, get_or, ltb, eqb, if◌then◌else◌}
use Rattle.terms.specs.Terms.{first}
use Rattle.answers.specs.declared.Place.{Place}
use Rattle.answers.specs.Places.{place}
use Rattle.answers.specs.Caps.{cap}
use Rattle.chars.specs.declared.AsciiSet.{AsciiSet}

-- The byte is of the set: its bit is set in `low` below 64, in `high` below 128.
unfoldable pub in_set : AsciiSet → ℕ → Bool
in_set set b =
    if ltb b 64 then eqb (set.low / 2 ^ b % 2) 1
    else (if ltb b 128 then eqb (set.high / 2 ^ (b - 64) % 2) 1
    else false)

-- The byte at i is not of the set.
abbrev pub stops_at : List ℕ → AsciiSet → ℕ → Bool
stops_at s set i = not (in_set set (get_or s i 0))

-- The first place from p on whose byte is not of the set, or the end.
unfoldable pub run_end : List ℕ → AsciiSet → Place → Place
run_end s set p = place (first (stops_at s set) p.0 (min (length s) cap - p.0))

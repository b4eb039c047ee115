-- Where an identifier lies. `plain_within` and `explicit_within` (proofs/NameLaws.antt) say it of each.
use Rattle.std.specs.Prelude.{ℕ, ◌≤◌, List, length, Ok, Err}
use Rattle.names.specs.Names.{Named}

-- An identifier lies in the text.
abbrev pub Within : List ℕ → Named → Type 0
Within s (Ok id) = (id.first.0 ≤ id.last.0) × (id.last.0 ≤ length s)
Within s (Err f) = Unit {0}

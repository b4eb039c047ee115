-- 01, refusals 1 and 2: how long a text or the names may be, and where in the map a text may stand.
use Rattle.std.specs.Prelude.{ℕ, ◌+◌, min, nat_le, if◌then◌else◌}
use Rattle.std.specs.Prelude.{Result, Ok, Err}
use Rattle.answers.specs.declared.Refusal.{Refusal}
use Rattle.answers.specs.declared.Refusal.TheVariants.{TooLong, OutOfMap}

-- The bytes that a text, or the names of a sheet, may have.
abbrev pub cap : ℕ
cap = 65536

-- The last position that may lie behind a text.
abbrev pub map_end : ℕ
map_end = 4294967294

-- What a check that hands nothing back answers.
abbrev pub Verdict : Type 0
Verdict = Result (Unit {0}) Refusal

-- Nothing is wrong.
abbrev pub accepted : Verdict
accepted = Ok (record {})

-- The first verdict where it refuses, else the second.
unfoldable pub first_of : Verdict → Verdict → Verdict
first_of (Ok _) v = v
first_of (Err f) v = Err f

-- 1, by the length.
unfoldable pub length_verdict : ℕ → Verdict
length_verdict n = if nat_le n cap then accepted else Err (TooLong (min n 4294967295))

-- 2, by the offset and the length.
unfoldable pub map_verdict : ℕ → ℕ → Verdict
map_verdict offset n = if nat_le (offset + n) map_end then accepted else Err OutOfMap

-- 1, then 2.
unfoldable pub text_verdict : ℕ → ℕ → Verdict
text_verdict offset n = first_of (length_verdict n) (map_verdict offset n)

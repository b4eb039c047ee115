-- What a search, and a check that hands something on, answer in code.
use Rattle.std.specs.Prelude.{ℕ, Option, Some, None, Result, Ok, Err, ltb, if◌then◌else◌}
use Rattle.answers.specs.declared.Refusal.{Refusal}
use Rattle.answers.specs.Caps.{Verdict, accepted}

-- The index that a search found; none where it is the end.
abbrev pub before : ℕ → ℕ → Option ℕ
before end i = if ltb i end then Some i else None

-- The verdict of a check, whatever it hands on.
abbrev pub outcome : {A : Type 0} → Result A Refusal → Verdict
outcome (Ok a) = accepted
outcome (Err f) = Err f

-- An identifier that does not run backwards. `plain_within` and `explicit_within` of the room `names` say that none does.
use Rattle.std.specs.Prelude.{◌≤◌, Result, Ok, Err}
use Rattle.answers.specs.declared.Refusal.{Refusal}
use Rattle.names.specs.declared.Id.{Id}

-- Its end does not come before its start.
abbrev pub Forward : Result Id Refusal → Type 0
Forward (Ok id) = id.first.0 ≤ id.last.0
Forward (Err f) = Unit {0}

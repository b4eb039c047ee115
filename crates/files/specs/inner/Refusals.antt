-- The three numbers of a refusal, as they are printed.
use Rattle.std.specs.Prelude.{ℕ, List, ◌++◌, codes, decimal}
use Rattle.answers.specs.declared.Numbers.{Numbers}
use Rattle.answers.specs.declared.Refusal.{Refusal}
use Rattle.answers.specs.Refusals.{told}

-- The number, the position and the detail, in parentheses.
abbrev pub shown : Numbers → List ℕ
shown told = codes "(" ++ decimal told.number ++ codes ", " ++ decimal told.position ++ codes ", " ++ decimal told.detail ++ codes ")"

-- Those of a refusal.
abbrev pub numbers_of : Refusal → List ℕ
numbers_of refusal = shown (told refusal)

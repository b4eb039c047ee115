-- Well-formedness and screening in one walk. `one_walk` (proofs/ScreeningLaws.antt) ties it to `invalid_input`.
use Rattle.std.specs.Prelude.{ℕ, Err}
use Rattle.answers.specs.declared.Refusal.TheVariants.{IllFormed}
use Rattle.answers.specs.declared.Place.{Place}
use Rattle.answers.specs.Caps.{Verdict, accepted, first_of}
use Rattle.chars.specs.View.{Chars, end, ill, char}
use Rattle.screening.specs.Screening.{offence_of, screened_by}

-- What the characters before got, and after them this one.
unfoldable pub sooner : Verdict → Place → ℕ → Verdict
sooner so_far p c = first_of so_far (screened_by (offence_of c) p c accepted)

-- The verdict on a text of which the characters before these got `so_far`.
unfoldable pub judged : Verdict → Chars → Verdict
judged so_far (end p) = so_far
judged so_far (ill i) = Err (IllFormed i)
judged so_far (char p c v) = judged (sooner so_far p c) v

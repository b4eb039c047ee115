-- 01, "Characters": screening, and what a whole text gets.
use Rattle.std.specs.Prelude.{ℕ, List, [], ◌∷◌, Option, None, Some, Err}
use Rattle.terms.specs.Terms.{Row, ◌to◌is◌, said}
use Rattle.answers.specs.declared.Place.{Place}
use Rattle.answers.specs.declared.Refusal.TheVariants.{ControlCodepoint, DeprecatedCodepoint, ForbiddenCodepoint}
use Rattle.answers.specs.Places.{place}
use Rattle.answers.specs.Caps.{Verdict, accepted, first_of}
use Rattle.chars.specs.View.{Chars, end, ill, char, chars_from, well_formed}
use Rattle.screening.specs.declared.Offence.{Offence}
use Rattle.screening.specs.declared.Offence.TheVariants.{Control, Deprecated, Forbidden}

-- The characters with which something is wrong, behind three with which nothing is.
unfoldable pub offences : List (Row (Option Offence))
offences =
    9 to 10 is None ∷ 13 to 13 is None ∷ 0x00 to 0x1F is Some Control ∷ 0x7F to 0x9F is Some Control
    ∷ 0x149 to 0x149 is Some Deprecated ∷ 0x673 to 0x673 is Some Deprecated ∷ 0xF77 to 0xF77 is Some Deprecated ∷ 0xF79 to 0xF79 is Some Deprecated
    ∷ 0x17A3 to 0x17A4 is Some Deprecated ∷ 0x17B4 to 0x17B5 is Some Deprecated
    ∷ 0x202A to 0x202E is Some Forbidden ∷ 0x2066 to 0x2069 is Some Forbidden ∷ []

-- What is wrong with a character, where something is.
unfoldable pub offence_of : ℕ → Option Offence
offence_of c = said offences None c

-- The refusal of a character at its place: 4, 5 or 6; and where nothing is wrong with it, what the rest of the text gets.
unfoldable pub screened_by : Option Offence → Place → ℕ → Verdict → Verdict
screened_by None p c rest = rest
screened_by (Some Control) p c rest = Err (ControlCodepoint p c)
screened_by (Some Deprecated) p c rest = Err (DeprecatedCodepoint p c)
screened_by (Some Forbidden) p c rest = Err (ForbiddenCodepoint p c)

-- Screening: the first offender.
unfoldable pub screened : Chars → Verdict
screened (end p) = accepted
screened (ill i) = accepted
screened (char p c v) = screened_by (offence_of c) p c (screened v)

-- What a whole text gets: 3 wherever it stands, then screening.
unfoldable pub invalid_input : List ℕ → Verdict
invalid_input s = first_of (well_formed (chars_from s (place 0))) (screened (chars_from s (place 0)))

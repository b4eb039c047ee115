-- 01, "Identifiers": the parts between `-`.
use Rattle.std.specs.Prelude.{ℕ, List, [], ◌∷◌, leb, Result, Ok, Err, if◌then◌else◌}
use Rattle.terms.specs.Terms.{Row, ◌to◌is◌, said}
use Rattle.answers.specs.declared.Place.{Place}
use Rattle.answers.specs.declared.Position.{Position}
use Rattle.answers.specs.Caps.{Verdict, accepted}
use Rattle.answers.specs.declared.Refusal.{Refusal}
use Rattle.chars.specs.View.{Chars, end, ill, char}
use Rattle.parts.specs.declared.Letter.{Letter}
use Rattle.parts.specs.declared.Part.{Part}

-- The characters that an identifier may have.
unfoldable pub letters : List (Row Letter)
letters =
    0x2D to 0x2D is Letter.Dash ∷ 0x30 to 0x39 is Letter.Digit ∷ 0x41 to 0x5A is Letter.Upper ∷ 0x61 to 0x7A is Letter.Lower ∷ []

-- What a character is to an identifier.
unfoldable pub letter_of : ℕ → Letter
letter_of c = said letters Letter.Other c

-- 19, for an empty part, at the span's start q.
abbrev pub empty : Position → Result Part Refusal
empty q = Err (Refusal.IdPartEmpty q)

-- 20, for a bad character c, at the span's start q too.
abbrev pub bad : Position → ℕ → Result Part Refusal
bad q c = Err (Refusal.InvalidCharInId q c)

-- What it does, by where in the parts it stands: `-` ends a part that is not empty; the first part begins with a letter; a part's letters are of one case.
unfoldable pub step_by : Position → ℕ → Part → Letter → Result Part Refusal
step_by q c Part.First letter = elim letter [ Letter.Dash ↦ empty q | Letter.Digit ↦ bad q c | Letter.Upper ↦ Ok Part.Upper | Letter.Lower ↦ Ok Part.Lower | Letter.Other ↦ bad q c ]
step_by q c Part.Next letter = elim letter [ Letter.Dash ↦ empty q | Letter.Digit ↦ Ok Part.Digits | Letter.Upper ↦ Ok Part.Upper | Letter.Lower ↦ Ok Part.Lower | Letter.Other ↦ bad q c ]
step_by q c Part.Digits letter = elim letter [ Letter.Dash ↦ Ok Part.Next | Letter.Digit ↦ Ok Part.Digits | Letter.Upper ↦ Ok Part.Upper | Letter.Lower ↦ Ok Part.Lower | Letter.Other ↦ bad q c ]
step_by q c Part.Upper letter = elim letter [ Letter.Dash ↦ Ok Part.Next | Letter.Digit ↦ Ok Part.Upper | Letter.Upper ↦ Ok Part.Upper | Letter.Lower ↦ bad q c | Letter.Other ↦ bad q c ]
step_by q c Part.Lower letter = elim letter [ Letter.Dash ↦ Ok Part.Next | Letter.Digit ↦ Ok Part.Lower | Letter.Upper ↦ bad q c | Letter.Lower ↦ Ok Part.Lower | Letter.Other ↦ bad q c ]

-- Where an identifier may end: behind a part that is not empty.
unfoldable pub ended_by : Position → Part → Verdict
ended_by q Part.First = Err (Refusal.IdPartEmpty q)
ended_by q Part.Next = Err (Refusal.IdPartEmpty q)
ended_by q Part.Digits = accepted
ended_by q Part.Upper = accepted
ended_by q Part.Lower = accepted

-- The walk goes on behind a character, or is refused at it.
unfoldable pub stepped : Result Part Refusal → (Part → Verdict) → Verdict
stepped (Ok part) next = next part
stepped (Err f) next = Err f

-- The characters before the end e, one by one; 3 at an ill-formed sequence. A carriage return is itself here.
unfoldable pub parts_from : Position → Place → Part → Chars → Verdict
parts_from q e part (end p) = ended_by q part
parts_from q e part (ill i) = if leb e.0 i.at.0 then ended_by q part else Err (Refusal.IllFormed i)
parts_from q e part (char p c v) =
    if leb e.0 p.0 then ended_by q part
    else stepped (step_by q c part (letter_of c)) (λ next. parts_from q e next v)

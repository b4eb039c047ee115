-- Decoding by two walks, of which the first measures and the second writes. `decoded_value` (proofs/DecodingLaws.antt) ties them to `decoded`.
use Rattle.std.specs.Prelude.{ℕ, ◌-◌, ◌≤◌, Bool, ◌||◌, List, ◌++◌, length, get_or, take, drop, eqb, Option, None, Some}
use Rattle.terms.specs.Terms.{first, over}
use Rattle.answers.specs.declared.Place.{Place}
use Rattle.strings.specs.declared.More.{More}
use Rattle.strings.specs.Strings.{added, Gathered, bytes, refused}
use Rattle.strings.specs.Decoding.{Spelt, spelt, none}

-- What the first walk answers: the count, if there is a value.
unfoldable pub measured : Spelt → Option ℕ
measured (spelt g) = Some (length g)
measured none = None

-- The rule is accepted, and a buffer of so many bytes has room for what it gathers.
abbrev pub Roomy : Gathered → ℕ → Type 0
Roomy (bytes g v) k = length g ≤ k
Roomy (refused f) k = ⊥

-- What the second walk leaves in the buffer.
unfoldable pub filled : Gathered → List ℕ → List ℕ
filled (bytes g v) b = g ++ drop (length g) b
filled (refused f) b = b

-- A quote or a backslash.
unfoldable pub is_mark : ℕ → Bool
is_mark b = eqb b 0x22 || eqb b 0x5C

-- The byte at a place is one.
abbrev pub marked : List ℕ → ℕ → Bool
marked s j = is_mark (get_or s j 0)

-- How many bytes from a place on are no mark.
unfoldable pub unmarked : List ℕ → Place → ℕ
unmarked s p = first (marked s) p.0 (length s - p.0) - p.0

-- These bytes at the front of a buffer, and their count.
unfoldable pub copied : List ℕ → Place → List ℕ → ℕ × List ℕ
copied s p b = (unmarked s p, over (take (unmarked s p) (drop p.0 s)) b)

-- What a turn adds, at the front of a buffer, and its count.
unfoldable pub stored : More → List ℕ → ℕ × List ℕ
stored m b = (length (added m), over (added m) b)

-- A text as the characters from a place on. The rules of the rooms above go by this view, one character a turn.
use Rattle.std.specs.Prelude.{ℕ, zero, suc, ◌-◌, ◌&&◌, List, length, eqb, None, Some, Ok, Err, if◌then◌else◌}
use Rattle.answers.specs.declared.Place.{Place}
use Rattle.answers.specs.declared.Ill.{Ill as Sequence}
use Rattle.answers.specs.Caps.{Verdict, accepted}
use Rattle.answers.specs.declared.Refusal.TheVariants.{IllFormed}
use Rattle.chars.specs.Utf8.{Read, byte_at, on_by, char_at}

-- The characters from a place on: the text ends there, an ill-formed sequence starts there, or a character stands there and others follow.
pub data Chars : Type 0 where
  end : Place → Chars
  ill : Sequence → Chars
  char : Place → ℕ → Chars → Chars

-- The place where a view starts.
unfoldable pub place_of : Chars → Place
place_of (end p) = p
place_of (ill i) = i.at
place_of (char p c v) = p

-- What is seen from p on, where r stands at p and `more n` is what is seen from n on.
unfoldable pub seen_at : Place → Read → (Place → Chars) → Chars
seen_at p (Ok None) more = end p
seen_at p (Err i) more = ill i
seen_at p (Ok (Some (c, n))) more = char p c (more n)

-- What is seen from p on, as far as k characters go, where `at q` stands at q.
unfoldable pub seen_by : (Place → Read) → ℕ → Place → Chars
seen_by at zero p = end p
seen_by at (suc k) p = seen_at p (at p) (seen_by at k)

-- The text as it stands. Each character has a byte at least, so as many turns as bytes are enough.
unfoldable pub chars_from : List ℕ → Place → Chars
chars_from s p = seen_by (char_at s) (suc (length s - p.0)) p

-- A carriage return directly followed by the byte of a newline reads as one newline.
unfoldable pub folded : List ℕ → Read → Read
folded s (Ok None) = Ok None
folded s (Err i) = Err i
folded s (Ok (Some (c, n))) = if eqb c 13 && eqb (byte_at s n) 10 then Ok (Some (10, on_by 1 n)) else Ok (Some (c, n))

-- What stands at a place, so read.
unfoldable pub folded_at : List ℕ → Place → Read
folded_at s p = folded s (char_at s p)

-- The text so read.
unfoldable pub folded_from : List ℕ → Place → Chars
folded_from s p = seen_by (folded_at s) (suc (length s - p.0)) p

-- Well-formedness: 3 at the first ill-formed sequence.
unfoldable pub well_formed : Chars → Verdict
well_formed (end p) = accepted
well_formed (ill i) = Err (IllFormed i)
well_formed (char p c v) = well_formed v

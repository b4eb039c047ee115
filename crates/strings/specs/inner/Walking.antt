-- How the walk of `gather` comes from one place to another: by a turn, by the turns of an escape, or by a run of raw characters. All is said in the terms of `gather` itself.
use Rattle.std.specs.Prelude.{ℕ, ◌+◌, ◌≤◌, ◌<◌, ◌≡◌, List, ◌++◌, length, take, drop, Option, None, Some, Result, Ok, Err, if◌then◌else◌}
use Rattle.answers.specs.declared.Place.{Place}
use Rattle.answers.specs.declared.Refusal.TheVariants.{IllFormed, UnexpectedEof}
use Rattle.answers.specs.Places.{in_map}
use Rattle.answers.specs.Caps.{cap}
use Rattle.answers.specs.declared.Refusal.{Refusal}
use Rattle.chars.specs.Utf8.{Read, byte_at, on_by}
use Rattle.chars.specs.declared.AsciiSet.{AsciiSet}
use Rattle.chars.specs.inner.Single.{single_at}
use Rattle.chars.specs.View.{folded_at, folded_from}
use Rattle.strings.specs.declared.Inside.{Inside}
use Rattle.strings.specs.declared.Inside.TheVariants.{Plain, Escape, Half, Brace, First, Number}
use Rattle.strings.specs.declared.Element.{Element}
use Rattle.strings.specs.declared.Element.TheVariants.{Adds, Close}
use Rattle.strings.specs.declared.Seen.{Seen}
use Rattle.strings.specs.Strings.{added, bytes, refused, gather}
use Rattle.strings.specs.inner.Checking.{feeds, pass, Fair, Proper}

-- The character at a place, where one byte is all that it has. `ascii_stands` (proofs/TurnLaws.antt) ties it to `folded_at`.
unfoldable pub ascii_at : List ℕ → Place → Option ℕ
ascii_at s p = if single_at s p then Some (byte_at s p) else None

-- The character at a place where a string cannot end: else 13, or 3. `expected_stands` and `expected_fails` (proofs/TurnLaws.antt) tie it to `gather`.
unfoldable pub expected_of : ℕ → Place → Read → Result (ℕ × Place) Refusal
expected_of o p (Ok None) = Err (UnexpectedEof (in_map o p))
expected_of o p (Err i) = Err (IllFormed i)
expected_of o p (Ok (Some stands)) = Ok stands

-- The same of a place of the text.
unfoldable pub expected_at : List ℕ → ℕ → Place → Result (ℕ × Place) Refusal
expected_at s o p = expected_of o p (folded_at s p)

-- Half a byte is a digit's value.
abbrev pub Sound : Inside → Type 0
Sound Plain = Unit {0}
Sound Escape = Unit {0}
Sound (Half h) = h < 16
Sound (Brace u) = Unit {0}
Sound (First u) = Unit {0}
Sound (Number k) = Unit {0}

-- How many bytes an escape has so far at least. It has gathered none of them.
abbrev pub begun : Inside → ℕ
begun Plain = 0
begun Escape = 1
begun (Half h) = 2
begun (Brace u) = 2
begun (First u) = 3
begun (Number k) = 4

-- The walk comes from i at p to j at n, and gathers g on the way: it goes on here as it goes on there, and gathers no more than it passes.
pub record Comes (s : List ℕ) (o : ℕ) (i : Inside) (p : Place) (j : Inside) (g : List ℕ) (n : Place) : Type 0 where
  pub same : (h : List ℕ) → gather o i h (folded_from s p) ≡ gather o j (h ++ g) (folded_from s n)
  pub paid : p.0 + length g + begun j ≤ n.0 + begun i
  pub onward : p.0 ≤ n.0

-- Something was read at p, and n lies beyond it within the text.
pub record Beyond (s : List ℕ) (p n : Place) : Type 0 where
  pub beyond : p.0 < n.0
  pub inside : n.0 ≤ length s
  pub capped : p.0 < cap

-- What the walk does from i at p on.
abbrev pub Leads : List ℕ → ℕ → Inside → Place → Result Element Refusal → Type 0
Leads s o i p (Ok (Adds m n)) = Beyond s p n × Comes s o i p Plain (added m) n × Proper m
Leads s o i p (Ok (Close n)) = Beyond s p n × ((h : List ℕ) → gather o i h (folded_from s p) ≡ bytes h (folded_from s n))
Leads s o i p (Err f) = (h : List ℕ) → gather o i h (folded_from s p) ≡ refused f

-- The bytes that are characters by themselves, and that a string holds as they stand: 0x20 to 0x7E without the quote and the backslash.
abbrev pub bare : AsciiSet
bare = record { low = 0xFFFFFFFB00000000; high = 0x7FFFFFFFEFFFFFFF }

-- The r bytes from p on are raw characters: a string holds them as they stand.
pub record Raw (s : List ℕ) (p : Place) (r : ℕ) : Type 0 where
  pub comes : (o : ℕ) → Comes s o Plain p Plain (take r (drop p.0 s)) (on_by r p)
  pub passes : (n : ℕ) (t : Seen) → n ≤ p.0 → Fair t → 0 < r → feeds n t (take r (drop p.0 s)) ≡ pass t
  pub inside : 0 < r → p.0 + r ≤ length s
  pub near : 0 < r → p.0 + r ≤ cap + 4

-- 01, "Tokens": runs, and comments. Each rule goes over the characters from a place on, and answers the place where the rest begins, or a refusal.
use Rattle.std.specs.Prelude.{ℕ, ◌+◌, ◌-◌, Bool, ◌||◌, eqb, Option, None, Some, Result, Ok, Err, if◌then◌else◌}
use Rattle.terms.specs.Terms.{within}
use Rattle.answers.specs.declared.Place.{Place}
use Rattle.answers.specs.declared.Position.{Position}
use Rattle.answers.specs.declared.Refusal.{Refusal}
use Rattle.answers.specs.declared.Refusal.TheVariants.{IllFormed, UnterminatedComment}
use Rattle.chars.specs.View.{Chars, end, ill, char, place_of}
use Rattle.runs.specs.declared.Block.{Block}

-- Where a run or a comment ends, or a refusal.
abbrev pub Ran : Type 0
Ran = Result Place Refusal

-- Newline, tab, space.
unfoldable pub blank : ℕ → Bool
blank c = eqb c 10 || (eqb c 9 || eqb c 32)

-- ASCII digits.
unfoldable pub digit : ℕ → Bool
digit c = within 48 57 c

-- A longest run of characters of a class: the character that ends it is examined too.
unfoldable pub run : (ℕ → Bool) → Chars → Ran
run class (end p) = Ok p
run class (ill i) = Err (IllFormed i)
run class (char p c v) = if class c then run class v else Ok p

-- Behind `//`: up to and with the next newline, or to the end.
unfoldable pub line_comment : Chars → Ran
line_comment (end p) = Ok p
line_comment (ill i) = Err (IllFormed i)
line_comment (char p c v) = if eqb c 10 then Ok (place_of v) else line_comment v

-- A character of a block comment that completes no pair.
unfoldable pub seen : ℕ → ℕ → Block
seen depth c = if eqb c 47 then Block.Slash depth else (if eqb c 42 then Block.Star depth else Block.Other depth)

-- What a character does: `/*` goes one deeper, `*/` one up, and out of the comment where that was the outermost.
unfoldable pub block_turn : Block → ℕ → Option Block
block_turn (Block.Other depth) c = Some (seen depth c)
block_turn (Block.Slash depth) c = Some (if eqb c 42 then Block.Other (depth + 1) else seen depth c)
block_turn (Block.Star depth) c = if eqb c 47 then (if eqb depth 1 then None else Some (Block.Other (depth - 1))) else Some (seen depth c)

-- A comment goes on by its next state, or ends behind the character that closes it.
unfoldable pub block_on : Option Block → Chars → (Block → Ran) → Ran
block_on (Some b) v next = next b
block_on None v next = Ok (place_of v)

-- Behind `/*`: 8 at the comment's start q where the text ends first.
unfoldable pub block_comment : Position → Block → Chars → Ran
block_comment q b (end p) = Err (UnterminatedComment q)
block_comment q b (ill i) = Err (IllFormed i)
block_comment q b (char p c v) = block_on (block_turn b c) v (λ next. block_comment q next v)

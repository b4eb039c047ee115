-- The rule of a first character with its class asked at once, so that a word is one rule. `settled_same` (proofs/SettledLaws.antt) ties it to `lexed_by`.
use Rattle.std.specs.Prelude.{ℕ, if◌then◌else◌}
use Rattle.classes.specs.Classes.{keylike_start}
use Rattle.tokens.specs.declared.Rule.{Rule}
use Rattle.tokens.specs.declared.Rule.TheVariants.{Blanks, Slash, Dash, Percent, Quote, Digits, Word, Mark, Classed}

-- The rule that stands where the class was asked: a word's inside it; elsewhere no rule takes the character.
unfoldable pub settled : Rule → ℕ → Rule
settled Blanks c = Blanks
settled Slash c = Slash
settled Dash c = Dash
settled Percent c = Percent
settled Quote c = Quote
settled Digits c = Digits
settled Word c = Word
settled (Mark kind) c = Mark kind
settled Classed c = if keylike_start c then Word else Classed

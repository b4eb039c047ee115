-- The settled rule says what the character's rule says (`settled_same`), and each arm is its row of `lexed_by`.
use Rattle.std.proofs.Common.{sym, ◌∙◌}
use Rattle.terms.proofs.TestLaws.{fails}
use Rattle.chars.proofs.ViewLaws.{folded_place}
use Rattle.runs.proofs.RunLaws.{blanks_class, digits_class, keylike_class}
use Rattle.tokens.specs.Tokens.{lexed_by}
use Rattle.tokens.proofs.SettledLaws.{settled_as, settled_not}
use Rattle.tokens.proofs.rules.lexed_by.Goals as goal

pub returns-in-Blanks : goal.returns-in-Blanks
unfolding lexed_by
returns-in-Blanks c =
    rw (← settled_as _ _ _ _ _ _ _ c.settled_rule.ensures c.in-Blanks.is, ← blanks_class, ← c.run_from.ensures) c.as_token.ensures

pub returns-in-Slash : goal.returns-in-Slash
unfolding lexed_by
returns-in-Slash c = c.slash_rule.ensures ∙ settled_as _ _ _ _ _ _ _ c.settled_rule.ensures c.in-Slash.is

pub returns-in-Dash : goal.returns-in-Dash
unfolding lexed_by
returns-in-Dash c = c.dash_rule.ensures ∙ settled_as _ _ _ _ _ _ _ c.settled_rule.ensures c.in-Dash.is

pub returns-in-Percent : goal.returns-in-Percent
unfolding lexed_by
returns-in-Percent c = c.percent_rule.ensures ∙ settled_as _ _ _ _ _ _ _ c.settled_rule.ensures c.in-Percent.is

pub returns-in-Quote : goal.returns-in-Quote
unfolding lexed_by
returns-in-Quote c =
    rw (
      ← settled_as _ _ _ _ _ _ _ c.settled_rule.ensures c.in-Quote.is,
      folded_place,
      ← c.in_map-start.ensures,
      ← c.expect_string_literal.ensures,
    ) c.as_string.ensures

pub returns-in-Digits : goal.returns-in-Digits
unfolding lexed_by
returns-in-Digits c =
    rw (← settled_as _ _ _ _ _ _ _ c.settled_rule.ensures c.in-Digits.is, ← digits_class, ← c.run_from-in-Digits.ensures) c.as_token-in-Digits.ensures

pub returns-in-Word : goal.returns-in-Word
unfolding lexed_by
returns-in-Word c =
    rw (← settled_as _ _ _ _ _ _ _ c.settled_rule.ensures c.in-Word.is, ← keylike_class) c.word_rule.ensures

pub returns-in-Mark : goal.returns-in-Mark
unfolding lexed_by
returns-in-Mark c = rw (← settled_as _ _ _ _ _ _ _ c.settled_rule.ensures c.in-Mark.is, folded_place)

-- no class takes the character
pub returns-in-Classed : goal.returns-in-Classed
unfolding lexed_by
returns-in-Classed c =
    let classed = c.in-Classed.is in
    rw (
      ← settled_as _ _ _ _ _ _ _ c.settled_rule.ensures classed,
      fails _ (settled_not _ _ (sym c.settled_rule.ensures ∙ classed)),
      ← c.in_map.ensures,
    )

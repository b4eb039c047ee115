use Rattle.std.proofs.Common.{sym, ◌∙◌}
use Rattle.answers.proofs.CapsLaws.{length_in}
use Rattle.sheets.proofs.CheckLaws.{shaped_of}
use Rattle.sheets.proofs.shape.Sheet.read.Goals as goal

pub invariant_of-result : goal.invariant_of-result
invariant_of-result c = record {
  shape = shaped_of _ _ c.in_ok-words.words.counted (length_in _ (sym c.check_length.ensures ∙ c.in_ok-check_length.was)) (sym c.is_shaped.ensures ∙ c.if-not-is_shaped.false);
}

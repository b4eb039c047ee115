use Rattle.std.proofs.Common.{sym, ◌∙◌, arith}
use Rattle.answers.proofs.CapsLaws.{first_both}
use Rattle.steps.proofs.StepLaws.{step_in}
use Rattle.wants.proofs.WantedLaws.{wanted_in}
use Rattle.wants.proofs.expect_at.Goals as goal

pub overflow_cast-text : goal.overflow_cast-text
overflow_cast-text c = let b = first_both _ _ (sym c.check_wanted.ensures ∙ c.in-Ok.is) in omega (arith, (step_in _ _ _ b.0).fits.short)

pub expect_step-requires : goal.expect_step-requires
expect_step-requires c = let b = first_both _ _ (sym c.check_wanted.ensures ∙ c.in-Ok.is) in wanted_in _ b.1

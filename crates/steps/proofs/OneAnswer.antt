-- Each contract leaves one answer.
use seplogic.Ra.Ura.{Ura}
use base.Logic.{SProp}
use prog.Memory.{Memory}
use prog.Routine.{Routine}
use types.Logic.{Logic}
use contract.Monad.{Fun}
use Rattle.terms.proofs.OneAnswer.{OneAnswer, agree}
use Rattle.steps.specs.contracts.open as opening
use Rattle.steps.specs.contracts.check_step
use Rattle.steps.specs.contracts.is_blank
use Rattle.steps.specs.contracts.next_raw_at
use Rattle.steps.specs.contracts.next_step
use Rattle.steps.specs.contracts.next_at

module _ {M : Type 1} {𝓤 : Ura M} (𝓛 : Logic 𝓤) (mem : Memory → SProp 𝓤) (run : Routine → Fun 𝓤) where
  pub open_one : OneAnswer 𝓤 opening.ended (opening.clauses 𝓛 mem run)
  open_one κs a g z z' e e' = agree 𝓤

  pub check_step_one : OneAnswer 𝓤 check_step.ended (check_step.clauses 𝓛 mem run)
  check_step_one κs a g z z' e e' = agree 𝓤

  pub is_blank_one : OneAnswer 𝓤 is_blank.ended (is_blank.clauses 𝓛 mem run)
  is_blank_one κs a g z z' e e' = agree 𝓤

  pub next_raw_at_one : OneAnswer 𝓤 next_raw_at.ended (next_raw_at.clauses 𝓛 mem run)
  next_raw_at_one κs a g z z' e e' = agree 𝓤

  pub next_step_one : OneAnswer 𝓤 next_step.ended (next_step.clauses 𝓛 mem run)
  next_step_one κs a g z z' e e' = agree 𝓤

  pub next_at_one : OneAnswer 𝓤 next_at.ended (next_at.clauses 𝓛 mem run)
  next_at_one κs a g z z' e e' = agree 𝓤

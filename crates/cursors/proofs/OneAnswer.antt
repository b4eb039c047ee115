-- Each contract leaves one answer and one place of the cursor.
use seplogic.Ra.Ura.{Ura}
use base.Logic.{SProp}
use prog.Memory.{Memory}
use prog.Routine.{Routine}
use types.Logic.{Logic}
use contract.Monad.{Fun}
use Rattle.terms.proofs.OneAnswer.{OneAnswer, OneOutcome, agree}
use Rattle.steps.specs.declared.Moved.{Moved}
use Rattle.steps.specs.Steps.{moved}
use Rattle.cursors.specs.contracts.open as opening
use Rattle.cursors.specs.contracts.next_raw_from
use Rattle.cursors.specs.contracts.next_from
use Rattle.cursors.specs.contracts.eat_from
use Rattle.cursors.specs.contracts.expect_from
use Rattle.cursors.specs.contracts.next_raw
use Rattle.cursors.specs.contracts.next
use Rattle.cursors.specs.contracts.eat
use Rattle.cursors.specs.contracts.expect

module _ {M : Type 1} {𝓤 : Ura M} (𝓛 : Logic 𝓤) (mem : Memory → SProp 𝓤) (run : Routine → Fun 𝓤) where
  pub open_one : OneAnswer 𝓤 opening.ended (opening.clauses 𝓛 mem run)
  open_one κs a g z z' e e' = agree 𝓤

  pub next_raw_from_one : OneAnswer 𝓤 next_raw_from.ended (next_raw_from.clauses 𝓛 mem run)
  next_raw_from_one κs a g z z' e e' = agree 𝓤

  pub next_from_one : OneAnswer 𝓤 next_from.ended (next_from.clauses 𝓛 mem run)
  next_from_one κs a g z z' e e' = agree 𝓤

  pub eat_from_one : OneAnswer 𝓤 eat_from.ended (eat_from.clauses 𝓛 mem run)
  eat_from_one κs a g z z' e e' = agree 𝓤

  pub expect_from_one : OneAnswer 𝓤 expect_from.ended (expect_from.clauses 𝓛 mem run)
  expect_from_one κs a g z z' e e' = agree 𝓤

  -- the step, and the cursor's place at exit
  pub next_raw_one : OneOutcome 𝓤 next_raw.ended (λ κs. Moved) (λ κs z e. moved z e.1.1.0.now.at) (next_raw.clauses 𝓛 mem run)
  next_raw_one κs a g z z' e e' = agree 𝓤

  pub next_one : OneOutcome 𝓤 next.ended (λ κs. Moved) (λ κs z e. moved z e.1.1.0.now.at) (next.clauses 𝓛 mem run)
  next_one κs a g z z' e e' = agree 𝓤

  pub eat_one : OneOutcome 𝓤 eat.ended (λ κs. Moved) (λ κs z e. moved z e.1.1.0.now.at) (eat.clauses 𝓛 mem run)
  eat_one κs a g z z' e e' = agree 𝓤

  pub expect_one : OneOutcome 𝓤 expect.ended (λ κs. Moved) (λ κs z e. moved z e.1.1.0.now.at) (expect.clauses 𝓛 mem run)
  expect_one κs a g z z' e e' = agree 𝓤

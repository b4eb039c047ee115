-- Each contract leaves one answer and one content of what is lent.
use Prim.Native.Nat.{ℕ}
use mathlib.Core.List.{List}
use seplogic.Ra.Ura.{Ura}
use base.Logic.{SProp}
use prog.Memory.{Memory}
use prog.Routine.{Routine}
use types.Logic.{Logic}
use contract.Monad.{Fun}
use Rattle.terms.proofs.OneAnswer.{OneAnswer, OneOutcome, agree}
use Rattle.witbox.specs.declared.StepAnswer.{StepAnswer}
use Rattle.witbox.specs.declared.CountAnswer.{CountAnswer}
use Rattle.witbox.specs.declared.SortAnswer.{SortAnswer}
use Rattle.witbox.specs.contracts.witbox_open
use Rattle.witbox.specs.contracts.witbox_next_raw
use Rattle.witbox.specs.contracts.witbox_next
use Rattle.witbox.specs.contracts.witbox_eat
use Rattle.witbox.specs.contracts.witbox_expect
use Rattle.witbox.specs.contracts.witbox_list_raw
use Rattle.witbox.specs.contracts.witbox_list
use Rattle.witbox.specs.contracts.witbox_string_literal
use Rattle.witbox.specs.contracts.witbox_parse_id
use Rattle.witbox.specs.contracts.witbox_parse_explicit_id
use Rattle.witbox.specs.contracts.witbox_toposort
use Rattle.witbox.specs.contracts.witbox_check_order
use Rattle.witbox.specs.contracts.witbox_propose

module _ {M : Type 1} {𝓤 : Ura M} (𝓛 : Logic 𝓤) (mem : Memory → SProp 𝓤) (run : Routine → Fun 𝓤) where
  pub witbox_open_one : OneAnswer 𝓤 witbox_open.ended (witbox_open.clauses 𝓛 mem run)
  witbox_open_one κs a g z z' e e' = agree 𝓤

  pub witbox_next_raw_one : OneOutcome 𝓤 witbox_next_raw.ended (λ κs. StepAnswer × ℕ) (λ κs z e. (z, e.1.1.0.now)) (witbox_next_raw.clauses 𝓛 mem run)
  witbox_next_raw_one κs a g z z' e e' = agree 𝓤

  pub witbox_next_one : OneOutcome 𝓤 witbox_next.ended (λ κs. StepAnswer × ℕ) (λ κs z e. (z, e.1.1.0.now)) (witbox_next.clauses 𝓛 mem run)
  witbox_next_one κs a g z z' e e' = agree 𝓤

  pub witbox_eat_one : OneOutcome 𝓤 witbox_eat.ended (λ κs. StepAnswer × ℕ) (λ κs z e. (z, e.1.1.1.0.now)) (witbox_eat.clauses 𝓛 mem run)
  witbox_eat_one κs a g z z' e e' = agree 𝓤

  pub witbox_expect_one : OneOutcome 𝓤 witbox_expect.ended (λ κs. StepAnswer × ℕ) (λ κs z e. (z, e.1.1.1.0.now)) (witbox_expect.clauses 𝓛 mem run)
  witbox_expect_one κs a g z z' e e' = agree 𝓤

  pub witbox_list_raw_one : OneOutcome 𝓤 witbox_list_raw.ended (λ κs. CountAnswer × List ℕ) (λ κs z e. (z, e.1.1.0.now)) (witbox_list_raw.clauses 𝓛 mem run)
  witbox_list_raw_one κs a g z z' e e' = agree 𝓤

  pub witbox_list_one : OneOutcome 𝓤 witbox_list.ended (λ κs. CountAnswer × List ℕ) (λ κs z e. (z, e.1.1.0.now)) (witbox_list.clauses 𝓛 mem run)
  witbox_list_one κs a g z z' e e' = agree 𝓤

  pub witbox_string_literal_one : OneOutcome 𝓤 witbox_string_literal.ended (λ κs. CountAnswer × List ℕ) (λ κs z e. (z, e.1.1.1.1.0.now)) (witbox_string_literal.clauses 𝓛 mem run)
  witbox_string_literal_one κs a g z z' e e' = agree 𝓤

  pub witbox_parse_id_one : OneAnswer 𝓤 witbox_parse_id.ended (witbox_parse_id.clauses 𝓛 mem run)
  witbox_parse_id_one κs a g z z' e e' = agree 𝓤

  pub witbox_parse_explicit_id_one : OneAnswer 𝓤 witbox_parse_explicit_id.ended (witbox_parse_explicit_id.clauses 𝓛 mem run)
  witbox_parse_explicit_id_one κs a g z z' e e' = agree 𝓤

  pub witbox_toposort_one : OneOutcome 𝓤 witbox_toposort.ended (λ κs. SortAnswer × List ℕ) (λ κs z e. (z, e.1.1.0.now)) (witbox_toposort.clauses 𝓛 mem run)
  witbox_toposort_one κs a g z z' e e' = agree 𝓤

  pub witbox_check_order_one : OneAnswer 𝓤 witbox_check_order.ended (witbox_check_order.clauses 𝓛 mem run)
  witbox_check_order_one κs a g z z' e e' = agree 𝓤

  pub witbox_propose_one : OneOutcome 𝓤 witbox_propose.ended (λ κs. SortAnswer × List ℕ) (λ κs z e. (z, e.1.1.0.now)) (witbox_propose.clauses 𝓛 mem run)
  witbox_propose_one κs a g z z' e e' = agree 𝓤

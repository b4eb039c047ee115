-- Each contract leaves one answer.
use seplogic.Ra.Ura.{Ura}
use base.Logic.{SProp}
use prog.Memory.{Memory}
use prog.Routine.{Routine}
use types.Logic.{Logic}
use contract.Monad.{Fun}
use Rattle.terms.proofs.OneAnswer.{OneAnswer, agree}
use Rattle.answers.specs.contracts.in_map
use Rattle.answers.specs.contracts.check_length
use Rattle.answers.specs.contracts.check_text
use Rattle.answers.specs.contracts.Refusal.numbers
use Rattle.answers.specs.contracts.Refusal.number
use Rattle.answers.specs.contracts.Refusal.position
use Rattle.answers.specs.contracts.Refusal.detail
use Rattle.answers.specs.contracts.NumbersFromVerdict.from as verdict_numbers

module _ {M : Type 1} {𝓤 : Ura M} (𝓛 : Logic 𝓤) (mem : Memory → SProp 𝓤) (run : Routine → Fun 𝓤) where
  pub in_map_one : OneAnswer 𝓤 in_map.ended (in_map.clauses 𝓛 mem run)
  in_map_one κs a g z z' e e' = agree 𝓤

  pub check_length_one : OneAnswer 𝓤 check_length.ended (check_length.clauses 𝓛 mem run)
  check_length_one κs a g z z' e e' = agree 𝓤

  pub check_text_one : OneAnswer 𝓤 check_text.ended (check_text.clauses 𝓛 mem run)
  check_text_one κs a g z z' e e' = agree 𝓤

  pub numbers_one : OneAnswer 𝓤 numbers.ended (numbers.clauses 𝓛 mem run)
  numbers_one κs a g z z' e e' = agree 𝓤

  pub number_one : OneAnswer 𝓤 number.ended (number.clauses 𝓛 mem run)
  number_one κs a g z z' e e' = agree 𝓤

  pub position_one : OneAnswer 𝓤 position.ended (position.clauses 𝓛 mem run)
  position_one κs a g z z' e e' = agree 𝓤

  pub detail_one : OneAnswer 𝓤 detail.ended (detail.clauses 𝓛 mem run)
  detail_one κs a g z z' e e' = agree 𝓤

  pub verdict_numbers_one : OneAnswer 𝓤 verdict_numbers.ended (verdict_numbers.clauses 𝓛 mem run)
  verdict_numbers_one κs a g z z' e e' = agree 𝓤

-- Each contract leaves one answer.
use seplogic.Ra.Ura.{Ura}
use base.Logic.{SProp}
use prog.Memory.{Memory}
use prog.Routine.{Routine}
use types.Logic.{Logic}
use contract.Monad.{Fun}
use Rattle.terms.proofs.OneAnswer.{OneAnswer, agree}
use Rattle.wants.specs.contracts.eat_at
use Rattle.wants.specs.contracts.expect_at

module _ {M : Type 1} {𝓤 : Ura M} (𝓛 : Logic 𝓤) (mem : Memory → SProp 𝓤) (run : Routine → Fun 𝓤) where
  pub eat_at_one : OneAnswer 𝓤 eat_at.ended (eat_at.clauses 𝓛 mem run)
  eat_at_one κs a g z z' e e' = agree 𝓤

  pub expect_at_one : OneAnswer 𝓤 expect_at.ended (expect_at.clauses 𝓛 mem run)
  expect_at_one κs a g z z' e e' = agree 𝓤

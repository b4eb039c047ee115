-- Each contract leaves one answer.
use seplogic.Ra.Ura.{Ura}
use base.Logic.{SProp}
use prog.Memory.{Memory}
use prog.Routine.{Routine}
use types.Logic.{Logic}
use contract.Monad.{Fun}
use Rattle.terms.proofs.OneAnswer.{OneAnswer, agree}
use Rattle.runs.specs.contracts.run_on
use Rattle.runs.specs.contracts.run_from
use Rattle.runs.specs.contracts.line_comment
use Rattle.runs.specs.contracts.block_comment

module _ {M : Type 1} {𝓤 : Ura M} (𝓛 : Logic 𝓤) (mem : Memory → SProp 𝓤) (run : Routine → Fun 𝓤) where
  pub run_on_one : OneAnswer 𝓤 run_on.ended (run_on.clauses 𝓛 mem run)
  run_on_one κs a g z z' e e' = agree 𝓤

  pub run_from_one : OneAnswer 𝓤 run_from.ended (run_from.clauses 𝓛 mem run)
  run_from_one κs a g z z' e e' = agree 𝓤

  pub line_comment_one : OneAnswer 𝓤 line_comment.ended (line_comment.clauses 𝓛 mem run)
  line_comment_one κs a g z z' e e' = agree 𝓤

  pub block_comment_one : OneAnswer 𝓤 block_comment.ended (block_comment.clauses 𝓛 mem run)
  block_comment_one κs a g z z' e e' = agree 𝓤

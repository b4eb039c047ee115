-- Each contract leaves one answer.
use seplogic.Ra.Ura.{Ura}
use base.Logic.{SProp}
use prog.Memory.{Memory}
use prog.Routine.{Routine}
use types.Logic.{Logic}
use contract.Monad.{Fun}
use Rattle.terms.proofs.OneAnswer.{OneAnswer, agree}
use Rattle.kinds.specs.contracts.Token.kind
use Rattle.kinds.specs.contracts.keyword

module _ {M : Type 1} {𝓤 : Ura M} (𝓛 : Logic 𝓤) (mem : Memory → SProp 𝓤) (run : Routine → Fun 𝓤) where
  pub kind_one : OneAnswer 𝓤 kind.ended (kind.clauses 𝓛 mem run)
  kind_one κs a g z z' e e' = agree 𝓤

  pub keyword_one : OneAnswer 𝓤 keyword.ended (keyword.clauses 𝓛 mem run)
  keyword_one κs a g z z' e e' = agree 𝓤

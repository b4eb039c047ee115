-- Each contract leaves one answer and one content of each lent table.
use Prim.Native.Nat.{ℕ}
use mathlib.Core.Path.{sym, ◌∙◌}
use mathlib.Core.List.{List}
use seplogic.Ra.Ura.{Ura}
use base.Logic.{SProp}
use prog.Memory.{Memory}
use prog.Routine.{Routine}
use types.Logic.{Logic}
use contract.Monad.{Fun}
use Rattle.terms.proofs.OneAnswer.{OneAnswer, OneOutcome, both, agree}
use Rattle.answers.specs.Caps.{Verdict}
use Rattle.sheets.specs.contracts.byte_from
use Rattle.sheets.specs.contracts.resolve

module _ {M : Type 1} {𝓤 : Ura M} (𝓛 : Logic 𝓤) (mem : Memory → SProp 𝓤) (run : Routine → Fun 𝓤) where
  pub byte_from_one : OneAnswer 𝓤 byte_from.ended (byte_from.clauses 𝓛 mem run)
  byte_from_one κs a g z z' e e' = agree 𝓤

  -- the verdict and the two tables
  pub resolve_one : OneOutcome 𝓤 resolve.ended (λ κs. Verdict × (List ℕ × List ℕ)) (λ κs z e. (z, (e.1.1.0.now, e.1.1.1.0.now))) (resolve.clauses 𝓛 mem run)
  resolve_one κs a g z z' e e' =
      both 𝓤 (λ this that i.
      ((this.verdict ∙ sym that.verdict) i, ((this.owners ∙ sym that.owners) i, (this.targets ∙ sym that.targets) i)))

-- Each contract leaves one answer and one content of what is lent.
use Prim.Native.Nat.{ℕ}
use Rattle.std.specs.Prelude.{Option}
use mathlib.Core.List.{List}
use seplogic.Ra.Ura.{Ura}
use base.Logic.{SProp}
use prog.Memory.{Memory}
use prog.Routine.{Routine}
use types.Logic.{Logic}
use contract.Monad.{Fun}
use Rattle.terms.proofs.OneAnswer.{OneAnswer, OneOutcome, agree}
use Rattle.encoding.specs.contracts.is_scalar
use Rattle.encoding.specs.contracts.width
use Rattle.encoding.specs.contracts.encode

module _ {M : Type 1} {𝓤 : Ura M} (𝓛 : Logic 𝓤) (mem : Memory → SProp 𝓤) (run : Routine → Fun 𝓤) where
  pub is_scalar_one : OneAnswer 𝓤 is_scalar.ended (is_scalar.clauses 𝓛 mem run)
  is_scalar_one κs a g z z' e e' = agree 𝓤

  pub width_one : OneAnswer 𝓤 width.ended (width.clauses 𝓛 mem run)
  width_one κs a g z z' e e' = agree 𝓤

  -- the count, and the buffer
  pub encode_one : OneOutcome 𝓤 encode.ended (λ κs. Option ℕ × List ℕ) (λ κs z e. (z, e.1.0.now)) (encode.clauses 𝓛 mem run)
  encode_one κs a g z z' e e' = agree 𝓤

-- Each contract leaves one answer and one content of what is lent.
use Prim.Native.Nat.{ℕ}
use mathlib.Core.List.{List}
use seplogic.Ra.Ura.{Ura}
use base.Logic.{SProp}
use prog.Memory.{Memory}
use prog.Routine.{Routine}
use types.Logic.{Logic}
use contract.Monad.{Fun}
use Rattle.terms.proofs.OneAnswer.{OneAnswer, OneOutcome, agree}
use Rattle.std.specs.Prelude.{Result}
use Rattle.answers.specs.declared.Refusal.{Refusal}
use Rattle.strings.specs.contracts.expect_string_literal
use Rattle.strings.specs.contracts.string_literal

module _ {M : Type 1} {𝓤 : Ura M} (𝓛 : Logic 𝓤) (mem : Memory → SProp 𝓤) (run : Routine → Fun 𝓤) where
  pub expect_string_literal_one : OneAnswer 𝓤 expect_string_literal.ended (expect_string_literal.clauses 𝓛 mem run)
  expect_string_literal_one κs a g z z' e e' = agree 𝓤

  -- the count or the refusal, and the buffer
  pub string_literal_one : OneOutcome 𝓤 string_literal.ended (λ κs. Result ℕ Refusal × List ℕ) (λ κs z e. (z, e.1.1.1.0.now))
      (string_literal.clauses 𝓛 mem run)
  string_literal_one κs a g z z' e e' = agree 𝓤

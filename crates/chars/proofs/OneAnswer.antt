-- Each contract leaves one answer.
use seplogic.Ra.Ura.{Ura}
use base.Logic.{SProp}
use prog.Memory.{Memory}
use prog.Routine.{Routine}
use types.Logic.{Logic}
use contract.Monad.{Fun}
use Rattle.terms.proofs.OneAnswer.{OneAnswer, agree}
use Rattle.chars.specs.contracts.byte_at
use Rattle.chars.specs.contracts.lead_of
use Rattle.chars.specs.contracts.read_at
use Rattle.chars.specs.contracts.single_at
use Rattle.chars.specs.contracts.folded_at
use Rattle.chars.specs.contracts.to_hex
use Rattle.chars.specs.contracts.limit
use Rattle.chars.specs.contracts.run_end

module _ {M : Type 1} {𝓤 : Ura M} (𝓛 : Logic 𝓤) (mem : Memory → SProp 𝓤) (run : Routine → Fun 𝓤) where
  pub byte_at_one : OneAnswer 𝓤 byte_at.ended (byte_at.clauses 𝓛 mem run)
  byte_at_one κs a g z z' e e' = agree 𝓤

  pub lead_of_one : OneAnswer 𝓤 lead_of.ended (lead_of.clauses 𝓛 mem run)
  lead_of_one κs a g z z' e e' = agree 𝓤

  pub read_at_one : OneAnswer 𝓤 read_at.ended (read_at.clauses 𝓛 mem run)
  read_at_one κs a g z z' e e' = agree 𝓤

  pub single_at_one : OneAnswer 𝓤 single_at.ended (single_at.clauses 𝓛 mem run)
  single_at_one κs a g z z' e e' = agree 𝓤

  pub folded_at_one : OneAnswer 𝓤 folded_at.ended (folded_at.clauses 𝓛 mem run)
  folded_at_one κs a g z z' e e' = agree 𝓤

  pub to_hex_one : OneAnswer 𝓤 to_hex.ended (to_hex.clauses 𝓛 mem run)
  to_hex_one κs a g z z' e e' = agree 𝓤

  pub limit_one : OneAnswer 𝓤 limit.ended (limit.clauses 𝓛 mem run)
  limit_one κs a g z z' e e' = agree 𝓤

  pub run_end_one : OneAnswer 𝓤 run_end.ended (run_end.clauses 𝓛 mem run)
  run_end_one κs a g z z' e e' = agree 𝓤

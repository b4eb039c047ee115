-- Each contract leaves one answer.
use seplogic.Ra.Ura.{Ura}
use base.Logic.{SProp}
use prog.Memory.{Memory}
use prog.Routine.{Routine}
use types.Logic.{Logic}
use contract.Monad.{Fun}
use Rattle.terms.proofs.OneAnswer.{OneAnswer, agree}
use Rattle.classes.specs.contracts.xid_start
use Rattle.classes.specs.contracts.xid_continue
use Rattle.classes.specs.contracts.is_keylike_start
use Rattle.classes.specs.contracts.is_keylike_continue
use Rattle.classes.specs.contracts.keylike_end

module _ {M : Type 1} {𝓤 : Ura M} (𝓛 : Logic 𝓤) (mem : Memory → SProp 𝓤) (run : Routine → Fun 𝓤) where
  pub xid_start_one : OneAnswer 𝓤 xid_start.ended (xid_start.clauses 𝓛 mem run)
  xid_start_one κs a g z z' e e' = agree 𝓤

  pub xid_continue_one : OneAnswer 𝓤 xid_continue.ended (xid_continue.clauses 𝓛 mem run)
  xid_continue_one κs a g z z' e e' = agree 𝓤

  pub is_keylike_start_one : OneAnswer 𝓤 is_keylike_start.ended (is_keylike_start.clauses 𝓛 mem run)
  is_keylike_start_one κs a g z z' e e' = agree 𝓤

  pub is_keylike_continue_one : OneAnswer 𝓤 is_keylike_continue.ended (is_keylike_continue.clauses 𝓛 mem run)
  is_keylike_continue_one κs a g z z' e e' = agree 𝓤

  pub keylike_end_one : OneAnswer 𝓤 keylike_end.ended (keylike_end.clauses 𝓛 mem run)
  keylike_end_one κs a g z z' e e' = agree 𝓤

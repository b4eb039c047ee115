-- Each contract leaves one answer, with one content of the part that it lends; and what is lent is what is handed back, by its numbers too.
use Rattle.std.proofs.Common.{◌≡◌, ℕ, List, Result, ap}
use seplogic.Ra.Ura.{Ura}
use base.Logic.{SProp, ent}
use prog.Memory.{Memory}
use prog.Routine.{Routine}
use types.Logic.{Logic}
use contract.Lifetimes.{Lfts}
use contract.Monad.{Fun, fact}
use denote.Triple.Entry.{Args, Res}
use denote.Triple.Clauses.{AtExit}
use Rattle.terms.proofs.OneAnswer.{OneAnswer, OneOutcome, agree, leaves}
use Rattle.answers.specs.declared.Refusal.{Refusal}
use Rattle.names.specs.Names.{plain_id, explicit_id, bytes_of, numbered, handed}
use Rattle.names.specs.contracts.validate_id
use Rattle.names.specs.contracts.validate_explicit_id
use Rattle.names.specs.contracts.parse_id
use Rattle.names.specs.contracts.parse_explicit_id

module _ {M : Type 1} {𝓤 : Ura M} (𝓛 : Logic 𝓤) (mem : Memory → SProp 𝓤) (run : Routine → Fun 𝓤) where
  pub validate_id_one : OneAnswer 𝓤 validate_id.ended (validate_id.clauses 𝓛 mem run)
  validate_id_one κs a g z z' e e' = agree 𝓤

  pub validate_explicit_id_one : OneAnswer 𝓤 validate_explicit_id.ended (validate_explicit_id.clauses 𝓛 mem run)
  validate_explicit_id_one κs a g z z' e e' = agree 𝓤

  -- the part's bytes, or the refusal
  pub parse_id_one : OneOutcome 𝓤 parse_id.ended (λ κs. Result (List ℕ) Refusal) (λ κs z e. bytes_of z) (parse_id.clauses 𝓛 mem run)
  parse_id_one κs a g z z' e e' = agree 𝓤

  -- the same
  pub parse_explicit_id_one :
      OneOutcome 𝓤 parse_explicit_id.ended (λ κs. Result (List ℕ) Refusal) (λ κs z e. bytes_of z) (parse_explicit_id.clauses 𝓛 mem run)
  parse_explicit_id_one κs a g z z' e e' = agree 𝓤

  -- what a host that counts in numbers is told
  pub parse_id_handed : (κs : Lfts parse_id.ended.signature.lifetimes) (a : Args parse_id.ended.signature κs) (g : (parse_id.clauses 𝓛 mem run κs a).ghost)
      (z : Res parse_id.ended.signature κs) (e : AtExit parse_id.ended κs)
      → ent 𝓤 ((parse_id.clauses 𝓛 mem run κs a).ensures g z e)
      (fact 𝓤 (numbered (bytes_of z) ≡ handed a.0.now (plain_id a.0.now a.1.0 a.1.1.0)))
  unfolding handed
  parse_id_handed κs a g z e = leaves 𝓤 (λ h. ap numbered h)

  -- the same
  pub parse_explicit_id_handed : (κs : Lfts parse_explicit_id.ended.signature.lifetimes) (a : Args parse_explicit_id.ended.signature κs)
      (g : (parse_explicit_id.clauses 𝓛 mem run κs a).ghost) (z : Res parse_explicit_id.ended.signature κs) (e : AtExit parse_explicit_id.ended κs)
      → ent 𝓤 ((parse_explicit_id.clauses 𝓛 mem run κs a).ensures g z e)
      (fact 𝓤 (numbered (bytes_of z) ≡ handed a.0.now (explicit_id a.0.now a.1.0 a.1.1.0)))
  unfolding handed
  parse_explicit_id_handed κs a g z e = leaves 𝓤 (λ h. ap numbered h)

-- What it is for a contract to leave one answer.
-- A contract is a function's clauses as the checker has them (`f.clauses`): for arguments a, what its `ensures` says of an answer z
-- and of parameters that are e at exit.
use mathlib.Core.Path.{◌≡◌, sym, ◌∙◌}
use seplogic.Ra.Ura.{Ura}
use base.Logic.{ent, id⊢}
use contract.Lifetimes.{Lfts}
use contract.Monad.{conj, conj_l, conj_r, fact, fact_i, fact_use}
use denote.Triple.Entry.{Args, Res}
use denote.Triple.Clauses.{Clauses, Ended, AtExit}

module _ {M : Type 1} (𝓤 : Ura M) where
  -- Of any two outcomes that the contract allows for one call, the same is seen.
  abbrev pub OneOutcome : (T : Ended) (Seen : Lfts T.signature.lifetimes → Type 0)
      → ((κs : Lfts T.signature.lifetimes) → Res T.signature κs → AtExit T κs → Seen κs) → Clauses 𝓤 T → Type 1
  OneOutcome T Seen seen c =
      (κs : Lfts T.signature.lifetimes) (a : Args T.signature κs) (g : (c κs a).ghost) (z z' : Res T.signature κs) (e e' : AtExit T κs)
      → ent 𝓤 (conj 𝓤 ((c κs a).ensures g z e) ((c κs a).ensures g z' e')) (fact 𝓤 (seen κs z e ≡ seen κs z' e'))

  -- Any two answers that it allows for one call are equal.
  abbrev pub OneAnswer : (T : Ended) → Clauses 𝓤 T → Type 1
  OneAnswer T c = OneOutcome T (λ κs. Res T.signature κs) (λ κs z e. z) c

  -- One fact gives another: what follows from a contract.
  pub leaves : {φ ψ : Type 0} → (φ → ψ) → ent 𝓤 (fact 𝓤 φ) (fact 𝓤 ψ)
  leaves {φ} {ψ} f = fact_use 𝓤 φ (id⊢ 𝓤 (fact 𝓤 φ)) (λ e. fact_i 𝓤 ψ (fact 𝓤 φ) (f e))

  -- Two facts give a third.
  pub both : {φ ψ χ : Type 0} → (φ → ψ → χ) → ent 𝓤 (conj 𝓤 (fact 𝓤 φ) (fact 𝓤 ψ)) (fact 𝓤 χ)
  both {φ} {ψ} {χ} f =
      fact_use 𝓤 φ (conj_l 𝓤 (fact 𝓤 φ) (fact 𝓤 ψ)) (λ p.
      fact_use 𝓤 ψ (conj_r 𝓤 (fact 𝓤 φ) (fact 𝓤 ψ)) (λ q.
      fact_i 𝓤 χ (conj 𝓤 (fact 𝓤 φ) (fact 𝓤 ψ)) (f p q)))

  -- Two things that equal a third are equal: so it is where a contract is one equation.
  pub agree : {X : Type 0} {x y z : X} → ent 𝓤 (conj 𝓤 (fact 𝓤 (x ≡ z)) (fact 𝓤 (y ≡ z))) (fact 𝓤 (x ≡ y))
  agree = both (λ this that. this ∙ sym that)

-- The order does not depend on the sequence of the edges, nor on repeats: it goes by which edges are listed.
use Prim.Native.Nat.{ℕ, zero, suc}
use mathlib.Core.Path.{◌≡◌, refl, sym, ap, ◌∙◌}
use mathlib.Core.Bool.{Bool, true, false, not, ◌&&◌}
use mathlib.Core.List.{List, [], ◌∷◌, ◌++◌}
use native.Mathlib.Omega.{arith}
use lib.Dec.{eqb}
use borrow.Author.Tests.{eqb-true, eqb-false}
use Rattle.terms.specs.Terms.{member}
use Rattle.graph.specs.Order.{Edge, waits, unmet, ready, next, placing, order}
use Rattle.graph.specs.Chain.{Has}
use Rattle.terms.proofs.FirstLaws.{first_cong}
use Rattle.terms.proofs.TestLaws.{clash}
use Rattle.terms.proofs.CountLaws.{count_none, count_some}

-- the edges of es are all among those of fs
abbrev pub Within : List Edge → List Edge → Type 0
Within es fs = (a b : ℕ) → Has es a b → Has fs a b

module _ (es fs : List Edge) (w : Within es fs) (placed : List ℕ) (i : ℕ) where
  met_too : unmet fs placed i ≡ 0 → (unmet es placed i ≡ 0 → ⊥) → ⊥
  met_too h k =
      let r = count_some (waits placed i) es (omega arith) in
      clash (waits placed i r.0) r.2 (count_none (waits placed i) fs h r.0 (w r.0.item r.0.target r.1))

module _ (es fs : List Edge) (w : Within es fs) (v : Within fs es) where
  ready_same : (placed : List ℕ) (i : ℕ) → ready es placed i ≡ ready fs placed i
  ready_same placed i = ap (λ (t : Bool). not (member i placed) && t) (go (eqb (unmet es placed i) 0) refl (eqb (unmet fs placed i) 0) refl)
    where
      go : (a : Bool) → eqb (unmet es placed i) 0 ≡ a → (b : Bool) → eqb (unmet fs placed i) 0 ≡ b → eqb (unmet es placed i) 0 ≡ eqb (unmet fs placed i) 0
      go true p true q = p ∙ sym q
      go true p false q = absurd (met_too fs es v placed i (eqb-true (unmet es placed i) 0 p) (eqb-false (unmet fs placed i) 0 q))
      go false p true q = absurd (met_too es fs w placed i (eqb-true (unmet fs placed i) 0 q) (eqb-false (unmet es placed i) 0 p))
      go false p false q = p ∙ sym q

  next_same : (n : ℕ) (placed : List ℕ) → next es n placed ≡ next fs n placed
  next_same n placed = first_cong (ready es placed) (ready fs placed) n 0 (λ k a b. ready_same placed k)

  placing_same : (n f : ℕ) (placed : List ℕ) → placing es n f placed ≡ placing fs n f placed
  unfolding placing
  placing_same n zero placed = refl
  placing_same n (suc f) placed = rw (next_same n placed, placing_same n f (placed ++ (next fs n placed ∷ [])))

  pub order_same : (n : ℕ) → order es n ≡ order fs n
  order_same n = placing_same n n []

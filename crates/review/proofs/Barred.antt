-- The table of wrong answers held against the contracts themselves: no host's function may answer so.
use mathlib.Core.Path.{◌≡◌, refl, sym, ap, ◌∙◌}
use Prim.Native.Nat.{ℕ}
use mathlib.Core.List.{List, Memᴰ}
use seplogic.Ra.Ura.{Ura}
use base.Logic.{SProp, ent}
use prog.Memory.{Memory}
use prog.Routine.{Routine}
use types.Logic.{Logic}
use contract.Lifetimes.{Lfts}
use contract.Monad.{Fun, fact}
use denote.Triple.Entry.{Args, Res}
use denote.Triple.Clauses.{Clauses, Ended, AtExit}
use Rattle.terms.proofs.OneAnswer.{leaves}
use Rattle.witbox.specs.contracts.witbox_open
use Rattle.witbox.specs.contracts.witbox_next_raw
use Rattle.witbox.specs.contracts.witbox_next
use Rattle.witbox.specs.contracts.witbox_eat
use Rattle.witbox.specs.contracts.witbox_expect
use Rattle.witbox.specs.contracts.witbox_list_raw
use Rattle.witbox.specs.contracts.witbox_list
use Rattle.witbox.specs.contracts.witbox_string_literal
use Rattle.witbox.specs.contracts.witbox_parse_id
use Rattle.witbox.specs.contracts.witbox_parse_explicit_id
use Rattle.witbox.specs.contracts.witbox_toposort
use Rattle.witbox.specs.contracts.witbox_check_order
use Rattle.witbox.specs.contracts.witbox_propose
use Rattle.review.proofs.Calls.{Call, opens, moves, counts, hands, sorts, judges, answered}
use Rattle.review.proofs.Calls.Call.{opening, next_raw, next, eat, expect, list_raw, list}
use Rattle.review.proofs.Calls.Call.{string_literal, parse_id, parse_explicit_id, toposort, check_order, propose}
use Rattle.review.proofs.Wrong.{◌never◌, wrongs, ruled_out}

module _ {M : Type 1} {𝓤 : Ura M} (𝓛 : Logic 𝓤) (mem : Memory → SProp 𝓤) (run : Routine → Fun 𝓤) where
  -- The lifetimes of a call, which a contract takes first.
  abbrev Lives : Ended → Type 0
  Lives T = Lfts T.signature.lifetimes

  -- A contract bars the table: of a call that `asks` makes of the arguments, it allows no outcome of which a wrong answer is seen.
  abbrev pub Bars : (T : Ended) → ((κs : Lives T) → Args T.signature κs → Call)
      → ((κs : Lives T) → Res T.signature κs → AtExit T κs → List ℕ) → Clauses 𝓤 T → Type 1
  Bars T asks seen c =
      (κs : Lives T) (a : Args T.signature κs) (g : (c κs a).ghost) (z : Res T.signature κs) (e : AtExit T κs) (ns : List ℕ)
      → Memᴰ (asks κs a never ns) wrongs
      → ent 𝓤 ((c κs a).ensures g z e) (fact 𝓤 (seen κs z e ≡ ns → ⊥))

  -- So does each that is one equation with the definition of the call's answer.
  bars : {X : Type 0} {x d : X} (seen : X → List ℕ) (c : Call) (ns : List ℕ) → seen d ≡ answered c → Memᴰ (c never ns) wrongs
      → ent 𝓤 (fact 𝓤 (x ≡ d)) (fact 𝓤 (seen x ≡ ns → ⊥))
  bars seen c ns right row = leaves 𝓤 (λ e wrong. ruled_out c ns row (sym right ∙ sym (ap seen e) ∙ wrong))

  pub open_bars : Bars witbox_open.ended (λ κs a. opening a.0.now a.1.0)
      (λ κs z e. opens z) (witbox_open.clauses 𝓛 mem run)
  unfolding answered
  open_bars κs a g z e ns = bars opens _ ns refl

  pub next_raw_bars : Bars witbox_next_raw.ended (λ κs a. next_raw a.0.now a.1.0 a.1.1.0.now)
      (λ κs z e. moves (z, e.1.1.0.now)) (witbox_next_raw.clauses 𝓛 mem run)
  unfolding answered
  next_raw_bars κs a g z e ns = bars moves _ ns refl

  pub next_bars : Bars witbox_next.ended (λ κs a. next a.0.now a.1.0 a.1.1.0.now)
      (λ κs z e. moves (z, e.1.1.0.now)) (witbox_next.clauses 𝓛 mem run)
  unfolding answered
  next_bars κs a g z e ns = bars moves _ ns refl

  pub eat_bars : Bars witbox_eat.ended (λ κs a. eat a.0.now a.1.0 a.1.1.0 a.1.1.1.0.now)
      (λ κs z e. moves (z, e.1.1.1.0.now)) (witbox_eat.clauses 𝓛 mem run)
  unfolding answered
  eat_bars κs a g z e ns = bars moves _ ns refl

  pub expect_bars : Bars witbox_expect.ended (λ κs a. expect a.0.now a.1.0 a.1.1.0 a.1.1.1.0.now)
      (λ κs z e. moves (z, e.1.1.1.0.now)) (witbox_expect.clauses 𝓛 mem run)
  unfolding answered
  expect_bars κs a g z e ns = bars moves _ ns refl

  pub list_raw_bars : Bars witbox_list_raw.ended (λ κs a. list_raw a.0.now a.1.0 a.1.1.0.now)
      (λ κs z e. counts (z, e.1.1.0.now)) (witbox_list_raw.clauses 𝓛 mem run)
  unfolding answered
  list_raw_bars κs a g z e ns = bars counts _ ns refl

  pub list_bars : Bars witbox_list.ended (λ κs a. list a.0.now a.1.0 a.1.1.0.now)
      (λ κs z e. counts (z, e.1.1.0.now)) (witbox_list.clauses 𝓛 mem run)
  unfolding answered
  list_bars κs a g z e ns = bars counts _ ns refl

  pub string_literal_bars : Bars witbox_string_literal.ended
      (λ κs a. string_literal a.0.now a.1.0 a.1.1.0 a.1.1.1.0 a.1.1.1.1.0.now)
      (λ κs z e. counts (z, e.1.1.1.1.0.now)) (witbox_string_literal.clauses 𝓛 mem run)
  unfolding answered
  string_literal_bars κs a g z e ns = bars counts _ ns refl

  pub parse_id_bars : Bars witbox_parse_id.ended (λ κs a. parse_id a.0.now a.1.0 a.1.1.0 a.1.1.1.0)
      (λ κs z e. hands z) (witbox_parse_id.clauses 𝓛 mem run)
  unfolding answered
  parse_id_bars κs a g z e ns = bars hands _ ns refl

  pub parse_explicit_id_bars : Bars witbox_parse_explicit_id.ended (λ κs a. parse_explicit_id a.0.now a.1.0 a.1.1.0 a.1.1.1.0)
      (λ κs z e. hands z) (witbox_parse_explicit_id.clauses 𝓛 mem run)
  unfolding answered
  parse_explicit_id_bars κs a g z e ns = bars hands _ ns refl

  pub toposort_bars : Bars witbox_toposort.ended (λ κs a. toposort a.0.now a.1.0.now a.1.1.0.now)
      (λ κs z e. sorts (z, e.1.1.0.now)) (witbox_toposort.clauses 𝓛 mem run)
  unfolding answered
  toposort_bars κs a g z e ns = bars sorts _ ns refl

  pub check_order_bars : Bars witbox_check_order.ended (λ κs a. check_order a.0.now a.1.0.now a.1.1.0.now)
      (λ κs z e. judges z) (witbox_check_order.clauses 𝓛 mem run)
  unfolding answered
  check_order_bars κs a g z e ns = bars judges _ ns refl

  pub propose_bars : Bars witbox_propose.ended (λ κs a. propose a.0.now a.1.0.now a.1.1.0.now)
      (λ κs z e. sorts (z, e.1.1.0.now)) (witbox_propose.clauses 𝓛 mem run)
  unfolding answered
  propose_bars κs a g z e ns = bars sorts _ ns refl

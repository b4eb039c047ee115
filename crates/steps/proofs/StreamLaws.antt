-- The laws of the tokens from a place on: what stands at a place says how they begin, and they go on from the place behind it. No proof above these looks at the number of turns.
use Rattle.std.specs.Prelude.{None, Some, Ok, Err}
use Prim.Native.Nat.{ℕ, zero, suc, ◌<◌, ◌-◌}
use mathlib.Core.Path.{◌≡◌, refl, ap}
use mathlib.Core.List.{List}
use native.Mathlib.Omega.{arith}
use lib.ListN.{length}
use Rattle.answers.specs.declared.Place.{Place}
use Rattle.answers.specs.declared.Refusal.{Refusal}
use Rattle.tokens.specs.declared.Lexeme.{Lexeme}
use Rattle.tokens.specs.Tokens.{Raw, raw_at}
use Rattle.tokens.proofs.TokenLaws.{raw_goes}
use Rattle.steps.specs.Stream.{done, stop, token, after_raw, tokens_by, tokens_from}

module _ (s : List ℕ) (o : ℕ) where
  -- any two numbers of turns that are enough see the same
  enough : (k j : ℕ) (p : Place) → length s - p.0 < k → length s - p.0 < j → tokens_by (raw_at s o) k p ≡ tokens_by (raw_at s o) j p
  unfolding tokens_by after_raw
  enough zero j p h i = absurd (omega arith)
  enough (suc k) zero p h i = absurd (omega arith)
  enough (suc k) (suc j) p h i = go (raw_at s o p) refl (λ n. enough k j n)
    where
      go : (r : Raw) → raw_at s o p ≡ r
          → ((n : Place) → length s - n.0 < k → length s - n.0 < j → tokens_by (raw_at s o) k n ≡ tokens_by (raw_at s o) j n)
          → after_raw p r (tokens_by (raw_at s o) k) ≡ after_raw p r (tokens_by (raw_at s o) j)
      go (Ok (Some t)) e ih =
          let g = raw_goes s o p t.kind t.span t.next e in
          ap (token t.kind t.span t.next) (ih t.next (omega (arith, g.beyond, g.inside)) (omega (arith, g.beyond, g.inside)))
      go (Ok None) e ih = refl
      go (Err f) e ih = refl

  module _ (p : Place) where
    pub tokens_done : raw_at s o p ≡ Ok None → tokens_from s o p ≡ done p
    unfolding tokens_from tokens_by after_raw
    tokens_done e = rw e

    pub tokens_stop : (f : Refusal) → raw_at s o p ≡ Err f → tokens_from s o p ≡ stop f
    unfolding tokens_from tokens_by after_raw
    tokens_stop f e = rw e

    pub tokens_token : (t : Lexeme) → raw_at s o p ≡ Ok (Some t) → tokens_from s o p ≡ token t.kind t.span t.next (tokens_from s o t.next)
    unfolding tokens_from tokens_by after_raw
    tokens_token t e =
        let g = raw_goes s o p t.kind t.span t.next e in
        rw e (ap (token t.kind t.span t.next) (enough (length s - p.0) (suc (length s - t.next.0)) t.next (omega (arith, g.beyond, g.inside)) (omega arith)))

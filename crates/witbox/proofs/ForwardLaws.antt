-- An identifier lies in the text, so it does not run backwards.
use Prim.Native.Nat.{ℕ}
use mathlib.Core.Path.{◌≡◌, sym, subst}
use mathlib.Core.List.{List}
use Rattle.answers.specs.declared.Span.{Span}
use Rattle.std.specs.Prelude.{Result, Ok, Err}
use Rattle.answers.specs.declared.Refusal.{Refusal}
use Rattle.names.specs.declared.Id.{Id}
use Rattle.names.specs.Names.{plain_id, explicit_id}
use Rattle.names.specs.inner.Within.{Within}
use Rattle.names.proofs.NameLaws.{plain_within, explicit_within}
use Rattle.witbox.specs.inner.Forward.{Forward}

forward : (s : List ℕ) (n : Result Id Refusal) → Within s n → Forward n
forward s (Ok id) w = w.0
forward s (Err f) w = tt

module _ (s : List ℕ) (o : ℕ) (span : Span) (n : Result Id Refusal) where
  pub plain_forward : n ≡ plain_id s o span → Forward n
  plain_forward e = subst Forward (sym e) (forward s (plain_id s o span) (plain_within s o span))

  pub explicit_forward : n ≡ explicit_id s o span → Forward n
  explicit_forward e = subst Forward (sym e) (forward s (explicit_id s o span) (explicit_within s o span))

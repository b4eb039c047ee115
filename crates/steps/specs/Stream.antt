-- A text as its raw tokens from a place on. Steps and listings go by this view, one token a turn.
use Rattle.std.specs.Prelude.{ℕ, zero, suc, ◌-◌, List, length, None, Some, Ok, Err}
use Rattle.answers.specs.declared.Place.{Place}
use Rattle.answers.specs.declared.Span.{Span}
use Rattle.answers.specs.declared.Refusal.{Refusal}
use Rattle.kinds.specs.declared.Token.{Token}
use Rattle.tokens.specs.Tokens.{Raw, raw_at}

-- The tokens from a place on: the text ends there, a token is refused there, or one stands there with the place behind it, and others follow.
pub data Tokens : Type 0 where
  done : Place → Tokens
  stop : Refusal → Tokens
  token : Token → Span → Place → Tokens → Tokens

-- What is seen from p on, where r stands at p and `more n` is what is seen from n on.
unfoldable pub after_raw : Place → Raw → (Place → Tokens) → Tokens
after_raw p (Ok (Some t)) more = token t.kind t.span t.next (more t.next)
after_raw p (Ok None) more = done p
after_raw p (Err f) more = stop f

-- What is seen from p on, as far as k tokens go.
unfoldable pub tokens_by : (Place → Raw) → ℕ → Place → Tokens
tokens_by at zero p = done p
tokens_by at (suc k) p = after_raw p (at p) (tokens_by at k)

-- The tokens of a text. Each has a byte at least, so as many turns as bytes are enough.
unfoldable pub tokens_from : List ℕ → ℕ → Place → Tokens
tokens_from s o p = tokens_by (raw_at s o) (suc (length s - p.0)) p

-- 01, "Tokens": opening, and next raw and next on a plain place. Each step answers what it found and the place where the cursor then stands.
use Rattle.std.specs.Prelude.{ℕ, Bool, ◌&&◌, List, length, leb, eqb, Option, None, Some, Result, Ok, Err, if◌then◌else◌}
use Rattle.answers.specs.declared.Place.{Place}
use Rattle.answers.specs.declared.Span.{Span}
use Rattle.answers.specs.declared.Refusal.{Refusal}
use Rattle.answers.specs.Places.{place}
use Rattle.answers.specs.Caps.{Verdict, accepted, first_of, text_verdict}
use Rattle.chars.specs.Utf8.{byte_at}
use Rattle.screening.specs.Screening.{invalid_input}
use Rattle.kinds.specs.declared.Token.{Token}
use Rattle.kinds.specs.Kinds.{kind_of}
use Rattle.tokens.specs.Tokens.{Raw, raw_at}
use Rattle.steps.specs.declared.Moved.{Moved}
use Rattle.steps.specs.Stream.{Tokens, done, stop, token, tokens_from}

-- What opening answers: the place where the cursor stands, or the refusal.
abbrev pub Opened : Type 0
Opened = Result Place Refusal

-- What a step answers: a token with its span; no token, at the end of the text and, from eat, where the next token is another; or a refusal.
abbrev pub Step : Type 0
Step = Result (Option (Token × Span)) Refusal

-- The text starts with a byte order mark, EF BB BF.
unfoldable pub marked : List ℕ → Bool
marked s = eqb (byte_at s (place 0)) 0xEF && (eqb (byte_at s (place 1)) 0xBB && eqb (byte_at s (place 2)) 0xBF)

-- What a verdict on the text opens.
unfoldable pub opened_by : Verdict → List ℕ → Opened
opened_by (Ok _) s = Ok (if marked s then place 3 else place 0)
opened_by (Err f) s = Err f

-- Opening: 1, 2, 3, then screening; the cursor behind a byte order mark, or at the start.
unfoldable pub opened : List ℕ → ℕ → Opened
opened s o = opened_by (first_of (text_verdict o (length s)) (invalid_input s)) s

-- 23: the cursor is beyond the text.
unfoldable pub cursor_verdict : List ℕ → Place → Verdict
cursor_verdict s p = if leb p.0 (length s) then accepted else Err Refusal.BeyondText

-- What a step checks before it reads: 1, 2, 23.
unfoldable pub step_verdict : List ℕ → ℕ → Place → Verdict
step_verdict s o p = first_of (text_verdict o (length s)) (cursor_verdict s p)

-- An answer, and the place where the cursor stands.
abbrev pub moved : Step → Place → Moved
moved step p = record { step = step; at = p }

-- A refusal leaves the cursor where it was.
unfoldable pub moved_by : Verdict → Place → Moved → Moved
moved_by (Ok _) p m = m
moved_by (Err f) p m = moved (Err f) p

-- The raw token as a step: the cursor goes behind it, and stays at the end and on a refusal.
unfoldable pub raw_step : Place → Raw → Moved
raw_step p (Ok (Some t)) = moved (Ok (Some (t.kind, t.span))) t.next
raw_step p (Ok None) = moved (Ok None) p
raw_step p (Err f) = moved (Err f) p

-- Next raw: the token at the cursor.
unfoldable pub next_raw_at : List ℕ → ℕ → Place → Moved
next_raw_at s o p = moved_by (step_verdict s o p) p (raw_step p (raw_at s o p))

-- Kinds 0 and 1: blanks and comments.
unfoldable pub is_blank : Token → Bool
is_blank kind = leb (kind_of kind) 1

-- The first token that is none of these. At the end the cursor stands there.
unfoldable pub next_step : Place → Tokens → Moved
next_step p (done e) = moved (Ok None) e
next_step p (stop f) = moved (Err f) p
next_step p (token kind span n t) = if is_blank kind then next_step p t else moved (Ok (Some (kind, span))) n

-- Next.
unfoldable pub next_at : List ℕ → ℕ → Place → Moved
next_at s o p = moved_by (step_verdict s o p) p (next_step p (tokens_from s o p))

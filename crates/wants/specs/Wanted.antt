-- 01, "Tokens": eat and expect on a plain place, the steps for a wanted kind.
use Rattle.std.specs.Prelude.{ℕ, List, length, leb, eqb, None, Some, Ok, Err, if◌then◌else◌}
use Rattle.answers.specs.declared.Place.{Place}
use Rattle.answers.specs.declared.Position.{Position}
use Rattle.answers.specs.declared.Refusal.{Refusal}
use Rattle.answers.specs.Places.{place, in_map}
use Rattle.answers.specs.Caps.{Verdict, accepted, first_of}
use Rattle.kinds.specs.Kinds.{kind_of}
use Rattle.steps.specs.declared.Moved.{Moved}
use Rattle.steps.specs.Stream.{tokens_from}
use Rattle.steps.specs.Steps.{Step, step_verdict, moved, moved_by, next_step}

-- 22: a wanted kind above 66.
unfoldable pub kind_verdict : ℕ → Verdict
kind_verdict wanted = if leb wanted 66 then accepted else Err Refusal.BadSpan

-- Eat moves the cursor past the next token only if it is of the wanted kind.
unfoldable pub eat_step : ℕ → Place → Step → Place → Moved
eat_step wanted p (Ok (Some (kind, span))) n = if eqb (kind_of kind) wanted then moved (Ok (Some (kind, span))) n else moved (Ok None) p
eat_step wanted p (Ok None) n = moved (Ok None) p
eat_step wanted p (Err f) n = moved (Err f) p

-- Eat: 1, 2, 23, 22, then the next token.
unfoldable pub eat_at : List ℕ → ℕ → ℕ → Place → Moved
eat_at s o wanted p =
    moved_by (first_of (step_verdict s o p) (kind_verdict wanted)) p
    (eat_step wanted p (next_step p (tokens_from s o p)).step (next_step p (tokens_from s o p)).at)

-- Expect moves past it, or answers 21 at the found token's start or at the end e, with the cursor behind the found token or at the end.
unfoldable pub expect_step : ℕ → Position → Place → Step → Place → Moved
expect_step wanted e p (Ok (Some (kind, span))) n =
    if eqb (kind_of kind) wanted then moved (Ok (Some (kind, span))) n
    else moved (Err (Refusal.Wanted span.start wanted (kind_of kind))) n
expect_step wanted e p (Ok None) n = moved (Err (Refusal.Wanted e wanted 67)) n
expect_step wanted e p (Err f) n = moved (Err f) p

-- Expect: the same checks, then the next token.
unfoldable pub expect_at : List ℕ → ℕ → ℕ → Place → Moved
expect_at s o wanted p =
    moved_by (first_of (step_verdict s o p) (kind_verdict wanted)) p
    (expect_step wanted (in_map o (place (length s))) p (next_step p (tokens_from s o p)).step (next_step p (tokens_from s o p)).at)

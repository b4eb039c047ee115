-- 01, "Tokens": the rows of a text.
use Rattle.std.specs.Prelude.{ℕ, Bool, true, not, List, [], ◌∷◌, ◌++◌, Ok, Err, if◌then◌else◌}
use Rattle.answers.specs.declared.Span.{Span}
use Rattle.answers.specs.declared.Refusal.{Refusal}
use Rattle.kinds.specs.declared.Token.{Token}
use Rattle.kinds.specs.Kinds.{kind_of}
use Rattle.steps.specs.Stream.{Tokens, done, stop, token, tokens_from}
use Rattle.steps.specs.Steps.{Opened, opened, is_blank}
use Rattle.listing.specs.declared.Listing.{Listing}

-- A row tells of one token.
pub record Row : Type 0 where
  pub kind : Token
  pub span : Span

-- How many words a row has.
abbrev pub row_words : ℕ
row_words = 3

-- The words of a row: kind, start, end.
unfoldable pub words_of : Row → List ℕ
words_of r = kind_of r.kind ∷ r.span.start.0 ∷ r.span.end.0 ∷ []

-- The words of rows, one row behind the other.
unfoldable pub all_words : List Row → List ℕ
all_words [] = []
all_words (r ∷ rs) = words_of r ++ all_words rs

-- A raw listing keeps every token; a filtered one keeps no blank and no comment.
unfoldable pub keeps : Listing → Token → Bool
keeps Listing.Raw kind = true
keeps Listing.Filtered kind = not (is_blank kind)

-- A text's rows, or the refusal that its tokens end with.
pub data Rows : Type 0 where
  rows : List Row → Rows
  refused : Refusal → Rows

-- Rows, with others ahead of them.
unfoldable pub ahead : List Row → Rows → Rows
ahead before (rows rs) = rows (before ++ rs)
ahead before (refused f) = refused f

-- The row of a token, where the listing keeps it.
unfoldable pub row_of : Listing → Token → Span → List Row
row_of l kind span = if keeps l kind then record { kind = kind; span = span } ∷ [] else []

-- The rows of some tokens.
unfoldable pub rows_of : Listing → Tokens → Rows
rows_of l (done p) = rows []
rows_of l (stop f) = refused f
rows_of l (token kind span n t) = ahead (row_of l kind span) (rows_of l t)

-- The rows of a text that is opened, from its cursor to its end.
unfoldable pub rows_by : Listing → List ℕ → ℕ → Opened → Rows
rows_by l s o (Ok p) = rows_of l (tokens_from s o p)
rows_by l s o (Err f) = refused f

-- The rows of a text.
unfoldable pub text_rows : Listing → List ℕ → ℕ → Rows
text_rows l s o = rows_by l s o (opened s o)

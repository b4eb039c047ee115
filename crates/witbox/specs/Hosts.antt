-- 01, "Numbers that come back": each answer as the numbers that a host reads. It begins with number, position and detail; what an answer has not is 0.
use Rattle.std.specs.Prelude.{ℕ, ◌-◌, List, None, Some, Result, Ok, Err}
use Rattle.answers.specs.declared.Span.{Span}
use Rattle.answers.specs.declared.Refusal.{Refusal}
use Rattle.answers.specs.declared.Place.{Place}
use Rattle.answers.specs.Caps.{Verdict}
use Rattle.answers.specs.Refusals.{told, told_of}
use Rattle.kinds.specs.Kinds.{kind_of}
use Rattle.names.specs.declared.Id.{Id}
use Rattle.steps.specs.Steps.{Step}
use Rattle.steps.specs.declared.Moved.{Moved}
use Rattle.clerk.specs.declared.Sorted.{Sorted}
use Rattle.witbox.specs.declared.OpenAnswer.{OpenAnswer}
use Rattle.witbox.specs.declared.StepAnswer.{StepAnswer}
use Rattle.witbox.specs.declared.CountAnswer.{CountAnswer}
use Rattle.witbox.specs.declared.NameAnswer.{NameAnswer}
use Rattle.witbox.specs.declared.SortAnswer.{SortAnswer}
use Rattle.witbox.specs.declared.VerdictAnswer.{VerdictAnswer}

-- A span by its two positions.
abbrev pub span : ℕ → ℕ → Span
span start end = record { start = record { 0 = start }; end = record { 0 = end } }

-- Opening: the cursor.
unfoldable pub open_numbers : Result Place Refusal → OpenAnswer
open_numbers (Ok p) = record { number = 0; position = 0; detail = 0; cursor = p.0 }
open_numbers (Err f) = record { number = (told f).number; position = (told f).position; detail = (told f).detail; cursor = 0 }

-- A step without a token, at the end of the text or where eat says no: kind 67.
abbrev pub no_token : StepAnswer
no_token = record { number = 0; position = 0; detail = 0; kind = 67; start = 0; end = 0 }

-- A step that is refused.
unfoldable pub refused_step : Refusal → StepAnswer
refused_step f = record { number = (told f).number; position = (told f).position; detail = (told f).detail; kind = 0; start = 0; end = 0 }

-- A step: the token's kind and span.
unfoldable pub step_of : Step → StepAnswer
step_of (Ok (Some (kind, span))) = record { number = 0; position = 0; detail = 0; kind = kind_of kind; start = span.start.0; end = span.end.0 }
step_of (Ok None) = no_token
step_of (Err f) = refused_step f

-- The same, with the place that is left in the cursor.
unfoldable pub step_numbers : Moved → StepAnswer × ℕ
step_numbers m = (step_of m.step, m.at.0)

-- How many rows or bytes.
abbrev pub counted : ℕ → CountAnswer
counted n = record { number = 0; position = 0; detail = 0; count = n }

-- A listing or a string that is refused.
unfoldable pub refused_count : Refusal → CountAnswer
refused_count f = record { number = (told f).number; position = (told f).position; detail = (told f).detail; count = 0 }

-- A listing: how many rows. A string: how many bytes.
unfoldable pub count_of : Result ℕ Refusal → CountAnswer
count_of (Ok n) = counted n
count_of (Err f) = refused_count f

-- The same, with the table or the buffer.
unfoldable pub count_numbers : Result ℕ Refusal × List ℕ → CountAnswer × List ℕ
count_numbers a = (count_of a.0, a.1)

-- An identifier: the place and the length of the part.
unfoldable pub name_numbers : Result Id Refusal → NameAnswer
name_numbers (Ok id) = record { number = 0; position = 0; detail = 0; place = id.first.0; length = id.last.0 - id.first.0 }
name_numbers (Err f) = record { number = (told f).number; position = (told f).position; detail = (told f).detail; place = 0; length = 0 }

-- A sort: its verdict and the settled count.
unfoldable pub sort_of : Sorted → SortAnswer
sort_of s = record { number = (told_of s.verdict).number; position = (told_of s.verdict).position; detail = (told_of s.verdict).detail; settled = s.settled }

-- The same, with the order.
unfoldable pub sort_numbers : Sorted × List ℕ → SortAnswer × List ℕ
sort_numbers a = (sort_of a.0, a.1)

-- A verdict alone.
unfoldable pub verdict_numbers : Verdict → VerdictAnswer
verdict_numbers v = record { number = (told_of v).number; position = (told_of v).position; detail = (told_of v).detail }

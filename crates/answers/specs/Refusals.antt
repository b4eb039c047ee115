-- 01, "Numbers that come back", 33 of 02, §6, and no 9 by 02, §3: the number, the position and the detail of each answer.
use Rattle.std.specs.Prelude.{ℕ, ◌+◌, ◌*◌}
use Rattle.answers.specs.declared.Numbers.{Numbers}
use Rattle.std.specs.Prelude.{Ok, Err}
use Rattle.answers.specs.Caps.{Verdict}
use Rattle.answers.specs.declared.Refusal.{Refusal}

-- A row of the table: the number, the position (of a place, its own number) and the detail.
abbrev pub row : ℕ → ℕ → ℕ → Numbers
row n p d = record { number = n; position = p; detail = d }

-- The table, row by row.
unfoldable pub told : Refusal → Numbers
told (Refusal.TooLong length) = row 1 0 length
told Refusal.OutOfMap = row 2 0 0
told (Refusal.IllFormed ill) = row 3 ill.at.0 0
told (Refusal.ControlCodepoint place c) = row 4 place.0 c
told (Refusal.DeprecatedCodepoint place c) = row 5 place.0 c
told (Refusal.ForbiddenCodepoint place c) = row 6 place.0 c
told (Refusal.Unexpected map c) = row 7 map.0 c
told (Refusal.UnterminatedComment map) = row 8 map.0 0
told (Refusal.InvalidStringElement place c) = row 10 place.0 c
told (Refusal.InvalidStringEscape place c) = row 11 place.0 c
told (Refusal.WantedChar place c) = row 12 place.0 c
told (Refusal.UnexpectedEof map) = row 13 map.0 0
told (Refusal.InvalidUtf8 map offset) = row 14 map.0 offset
told (Refusal.NumberTooBig place) = row 15 place.0 0
told (Refusal.LoneUnderscore place) = row 16 place.0 0
told (Refusal.InvalidHexDigit place c) = row 17 place.0 c
told (Refusal.InvalidUnicodeValue place n) = row 18 place.0 n
told (Refusal.IdPartEmpty map) = row 19 map.0 0
told (Refusal.InvalidCharInId map c) = row 20 map.0 c
told (Refusal.Wanted map expected found) = row 21 map.0 (256 * expected + found)
told Refusal.BadSpan = row 22 0 0
told Refusal.BeyondText = row 23 0 0
told (Refusal.TooManyRows rows) = row 24 0 rows
told (Refusal.NoRoom needed) = row 25 0 needed
told Refusal.MalformedSheet = row 26 0 0
told Refusal.TooManyItems = row 27 0 0
told (Refusal.RepeatedName item) = row 28 0 item
told (Refusal.ItemNotFound dependency) = row 29 0 dependency
told (Refusal.TypeCycle dependency) = row 30 0 dependency
told (Refusal.NotAnOrder index) = row 33 0 index

-- Accepted is 0, 0 and 0.
unfoldable pub told_of : Verdict → Numbers
told_of (Ok _) = row 0 0 0
told_of (Err refusal) = told refusal

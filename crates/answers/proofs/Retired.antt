-- Number 9 is not given any more: no refusal has it.
use Rattle.std.proofs.Common.{◌≡◌, arith}
use Rattle.answers.specs.declared.Refusal.{Refusal}
use Rattle.answers.specs.Refusals.{told}

pub never_nine : (r : Refusal) → (told r).number ≡ 9 → ⊥
unfolding told
never_nine (Refusal.TooLong length) e = omega arith
never_nine Refusal.OutOfMap e = omega arith
never_nine (Refusal.IllFormed ill) e = omega arith
never_nine (Refusal.ControlCodepoint place c) e = omega arith
never_nine (Refusal.DeprecatedCodepoint place c) e = omega arith
never_nine (Refusal.ForbiddenCodepoint place c) e = omega arith
never_nine (Refusal.Unexpected map c) e = omega arith
never_nine (Refusal.UnterminatedComment map) e = omega arith
never_nine (Refusal.InvalidStringElement place c) e = omega arith
never_nine (Refusal.InvalidStringEscape place c) e = omega arith
never_nine (Refusal.WantedChar place c) e = omega arith
never_nine (Refusal.UnexpectedEof map) e = omega arith
never_nine (Refusal.InvalidUtf8 map offset) e = omega arith
never_nine (Refusal.NumberTooBig place) e = omega arith
never_nine (Refusal.LoneUnderscore place) e = omega arith
never_nine (Refusal.InvalidHexDigit place c) e = omega arith
never_nine (Refusal.InvalidUnicodeValue place n) e = omega arith
never_nine (Refusal.IdPartEmpty map) e = omega arith
never_nine (Refusal.InvalidCharInId map c) e = omega arith
never_nine (Refusal.Wanted map expected found) e = omega arith
never_nine Refusal.BadSpan e = omega arith
never_nine Refusal.BeyondText e = omega arith
never_nine (Refusal.TooManyRows rows) e = omega arith
never_nine (Refusal.NoRoom needed) e = omega arith
never_nine Refusal.MalformedSheet e = omega arith
never_nine Refusal.TooManyItems e = omega arith
never_nine (Refusal.RepeatedName item) e = omega arith
never_nine (Refusal.ItemNotFound dependency) e = omega arith
never_nine (Refusal.TypeCycle dependency) e = omega arith
never_nine (Refusal.NotAnOrder index) e = omega arith

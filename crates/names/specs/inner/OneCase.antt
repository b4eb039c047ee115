-- Identifiers whose letters are all of one case. `one_case_accepted` (proofs/OneCaseLaws.antt) ties it to the parts.
use Rattle.std.specs.Prelude.{◌≡◌, ℕ, ◌+◌, ◌<◌, ◌≤◌, Bool, true, not, ◌&&◌, ◌||◌, List, ◌==◌, nat_lt, slice_index, if◌then◌else◌}
use Rattle.terms.specs.Terms.{within}

-- Where the letters of a first letter's case begin.
unfoldable pub case_of : ℕ → ℕ
case_of b = if nat_lt b 0x61 then 0x41 else 0x61

-- The byte b may stand behind p: a letter of the case that begins at `low`, a digit, or a `-` behind anything but a `-`.
unfoldable pub follows : ℕ → ℕ → ℕ → Bool
follows low p b = within low (low + 25) b || (within 0x30 0x39 b || (b == 0x2D && not (p == 0x2D)))

-- Of the bytes from one place to another, each but the first may stand behind the one before it.
abbrev pub Follow : List ℕ → ℕ → ℕ → ℕ → Type 0
Follow s low from end = (k : ℕ) → from ≤ k → k + 1 < end → follows low (slice_index s k) (slice_index s (k + 1)) ≡ true

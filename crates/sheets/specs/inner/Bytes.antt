-- A byte looked for in bytes: of the names' signatures, and of the edges' targets.
use Rattle.std.specs.Prelude.{ℕ, ◌-◌, ◌≤◌, ◌<◌, ◌≡◌, Bool, false, List, length, get_or, drop, eqb}
use Rattle.terms.specs.Terms.{first}

-- The byte at k is x.
unfoldable pub holds : List ℕ → ℕ → ℕ → Bool
holds bs x k = eqb (get_or bs k 0) x

-- The first place from k on where the byte is x; the length where there is none.
abbrev pub byte_from : List ℕ → ℕ → ℕ → ℕ
byte_from bs k x = first (holds bs x) k (length bs - k)

-- The rest of the bytes, and no x before it.
pub record Rest (bs : List ℕ) (x : ℕ) (rest : List ℕ) : Type 0 where
  pub short : length rest ≤ length bs
  pub tail : rest ≡ drop (length bs - length rest) bs
  pub clean : (j : ℕ) → j < length bs - length rest → holds bs x j ≡ false

-- A name's signature: a byte computed from all of its bytes. Names with two signatures are two names, so a search looks closer only where the
-- signatures agree. `signed_apart` (proofs/NameLaws.antt) ties it to the search that the definitions make.
use Rattle.std.specs.Prelude.{ℕ, ◌+◌, ◌*◌, ◌%◌, ◌≡◌, List, [], ◌∷◌}
use Rattle.sheets.specs.Words.{name_of}
use Rattle.terms.specs.Terms.{over}
use Rattle.answers.specs.Caps.{Verdict}
use Rattle.sheets.specs.Checks.{first_repeat, repeat_verdict}
use Rattle.sheets.specs.Edges.{table}

-- The bytes, each times its own factor, added up; the factors step by steps that grow.
unfoldable pub signed_from : ℕ → ℕ → ℕ → List ℕ → ℕ
signed_from factor step sum [] = sum % 256
signed_from factor step sum (b ∷ bs) = signed_from ((factor + step) % 65536) ((step + 58) % 65536) (sum + b * factor) bs

-- A name's signature, one byte.
abbrev pub signature_of : List ℕ → ℕ
signature_of name = signed_from 37 101 0 name

-- The signatures of the first m items.
abbrev pub signatures_of : List ℕ → List ℕ → ℕ → List ℕ
signatures_of ws bs m = table (λ (i : ℕ). signature_of (name_of ws bs i)) 0 m

-- The answer is the verdict on repeated names; the signatures of the items before the first that repeats one are at the front of the slice.
pub record Signed (ws bs ss : List ℕ) (answer : Verdict) (ss' : List ℕ) : Type 0 where
  pub verdict : answer ≡ repeat_verdict ws bs
  pub signatures : ss' ≡ over (signatures_of ws bs (first_repeat ws bs)) ss

-- The definitions tried on 01's cases.
use Prim.Native.Nat.{ℕ}
use Prim.Native.String.{String}
use mathlib.Core.Path.{◌≡◌, refl}
use mathlib.Core.List.{List, [], ◌∷◌}
use Rattle.terms.specs.Terms.{same_bytes, ascii}
use Rattle.kinds.specs.Kinds.{kind_of}
use Rattle.kinds.specs.Keywords.{keywords, key_in, keyword}

-- The kinds' numbers of words.
unfoldable pub numbers : List String → List ℕ
unfolding keyword key_in keywords kind_of same_bytes ascii
numbers [] = []
numbers (word ∷ words) = kind_of (keyword (ascii word)) ∷ numbers words

-- Kinds are numbered as `Token` declares them, and not as the keywords come in the `match`.
pub kinds : numbers ("record" ∷ "resource" ∷ "import" ∷ "export" ∷ "world" ∷ "package" ∷ "Use" ∷ "include" ∷ "with" ∷ "_" ∷ "error-context" ∷ [])
    ≡ 34 ∷ 35 ∷ 56 ∷ 57 ∷ 58 ∷ 59 ∷ 62 ∷ 65 ∷ 66 ∷ 50 ∷ 47 ∷ []
unfolding numbers
kinds = refl

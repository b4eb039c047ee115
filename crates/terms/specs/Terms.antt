-- The words that every other definition is written in: a range, a table of ranges, a search, a count, a comparison of bytes, a text as bytes, a write to the front of a buffer.
use Rattle.std.specs.Prelude.{ℕ, zero, suc, ◌+◌, Bool, true, false, ◌&&◌, ◌||◌, List, [], ◌∷◌, ◌++◌, length, drop, leb, eqb, if◌then◌else◌}
use Prim.Native.Char.{code}
use Prim.Native.String.{String, [] as none, ◌∷◌ as ◌then◌}

-- x is one of low, …, high.
unfoldable pub within : ℕ → ℕ → ℕ → Bool
within low high x = leb low x && leb x high

infix 90 ◌to◌is◌
-- A row of a table: of each number from the first to the second it says the third.
pub data Row (A : Type 0) : Type 0 where
  ◌to◌is◌ : ℕ → ℕ → A → Row A

-- What a table says of x: the word of the first row that has x in its range, or `other` where none has.
unfoldable pub said : {A : Type 0} → List (Row A) → A → ℕ → A
said [] other x = other
said (low to high is v ∷ rows) other x = if within low high x then v else said rows other x

-- Of the n numbers i, i + 1, …, the first that passes the test; i + n where none does.
unfoldable pub first : (ℕ → Bool) → ℕ → ℕ → ℕ
first test i zero = i
first test i (suc n) = if test i then i else first test (suc i) n

-- 1 for yes, 0 for no.
abbrev pub bit : Bool → ℕ
bit true = 1
bit false = 0

-- How many entries of a list pass the test.
unfoldable pub count : {A : Type 0} → (A → Bool) → List A → ℕ
count test [] = 0
count test (x ∷ xs) = bit (test x) + count test xs

-- The number stands in the list.
unfoldable pub member : ℕ → List ℕ → Bool
member x [] = false
member x (y ∷ ys) = eqb x y || member x ys

-- The two are the same bytes.
unfoldable pub same_bytes : List ℕ → List ℕ → Bool
same_bytes [] [] = true
same_bytes [] (y ∷ ys) = false
same_bytes (x ∷ xs) [] = false
same_bytes (x ∷ xs) (y ∷ ys) = eqb x y && same_bytes xs ys

-- The bytes of a text of ASCII characters.
unfoldable pub ascii : String → List ℕ
ascii none = []
ascii (c then s) = code c ∷ ascii s

-- A buffer with xs at its front, the rest as it was.
abbrev pub over : {A : Type 0} → List A → List A → List A
over xs buffer = xs ++ drop (length xs) buffer

-- Chains of dependencies, and what makes a list of items a good order of them.
use Rattle.std.specs.Prelude.{ℕ, ◌<◌, ◌≡◌, true, length, get_or, take, eqb, ltb}
use mathlib.Core.List.{List, Memᴰ}
use Rattle.terms.specs.Terms.{bit, count, member}
use Rattle.graph.specs.Order.{Edge}

-- An edge from a to b is listed.
abbrev pub Has : List Edge → ℕ → ℕ → Type 0
Has es a b = Memᴰ (record { item = a; target = b }) es

-- A chain from a to b: an edge from a to b, or an edge from a and a chain from its target to b.
pub data Chain (es : List Edge) : ℕ → ℕ → Type 0 where
  one : {a b : ℕ} → Has es a b → Chain es a b
  more : {a b c : ℕ} → Has es a b → Chain es b c → Chain es a c

-- No chain leads from an item to itself.
abbrev pub Acyclic : List Edge → ℕ → Type 0
Acyclic es n = (a : ℕ) → a < n → Chain es a a → ⊥

-- Each edge's target is an item.
abbrev pub Targeted : List Edge → ℕ → Type 0
Targeted es n = (a b : ℕ) → Has es a b → b < n

-- Each number below n stands in the list once, and no other number does.
abbrev pub Permutation : ℕ → List ℕ → Type 0
Permutation n xs = (i : ℕ) → count (eqb i) xs ≡ bit (ltb i n)

-- What the entry at k needs stands before k.
abbrev pub Ordered : List Edge → List ℕ → Type 0
Ordered es xs = (k b : ℕ) → k < length xs → Has es (get_or xs k 0) b → member b (take k xs) ≡ true

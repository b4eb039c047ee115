-- 02, §6, "Load orders from headquarters": what a load order is, the check of a list of words that somebody proposes as one, and what our own proposer offers.
use Rattle.std.specs.Prelude.{ℕ, Bool, not, ◌&&◌, ◌||◌, List, length, get_or, take, eqb, leb, if◌then◌else◌, Err}
use Rattle.terms.specs.Terms.{first, member}
use Rattle.answers.specs.declared.Refusal.TheVariants.{NotAnOrder}
use Rattle.answers.specs.Caps.{first_of, Verdict, accepted}
use Rattle.graph.specs.Order.{Edge, unmet}
use Rattle.graph.specs.Chain.{Permutation, Ordered}
use Rattle.sheets.specs.Words.{items}
use Rattle.sheets.specs.Checks.{sheet_verdict}
use Rattle.sheets.specs.Edges.{edges_of}
use Rattle.clerk.specs.declared.Sorted.{Sorted}
use Rattle.clerk.specs.Sorted.{sorted}

-- A load order of n items: a permutation of them, with every dependency before each item that needs it.
pub record LoadOrder (es : List Edge) (n : ℕ) (xs : List ℕ) : Type 0 where
  pub permutation : Permutation n xs
  pub ordered : Ordered es xs

-- The word at index k is n or more, or repeats an item.
unfoldable pub unfit : ℕ → List ℕ → ℕ → Bool
unfit n xs k = leb n (get_or xs k 0) || member (get_or xs k 0) (take k xs)

-- The word at index k names an item with a dependency that is not earlier in the list.
unfoldable pub too_early : List Edge → List ℕ → ℕ → Bool
too_early es xs k = not (eqb (unmet es (take k xs) (get_or xs k 0)) 0)

-- Index k is at fault.
unfoldable pub at_fault : List Edge → ℕ → List ℕ → ℕ → Bool
at_fault es n xs k = unfit n xs k || too_early es xs k

-- The first index at fault; the list's length where there is none.
abbrev pub first_fault : List Edge → ℕ → List ℕ → ℕ
first_fault es n xs = first (at_fault es n xs) 0 (length xs)

-- 33: an index is at fault, or the list has not as many words as there are items.
unfoldable pub list_verdict : List Edge → ℕ → List ℕ → Verdict
list_verdict es n xs =
    if eqb (length xs) n && eqb (first_fault es n xs) n then accepted else Err (NotAnOrder (first_fault es n xs))

-- The checks of the sheet, 1 to 29; then 33.
unfoldable pub checked_order : List ℕ → List ℕ → List ℕ → Verdict
checked_order ws bs xs = first_of (sheet_verdict ws bs) (list_verdict (edges_of ws bs) (items ws) xs)

-- What the proposer offers: the sorter's answer, and the clerk's order at the front of the slice where that accepts.
unfoldable pub proposed : List ℕ → List ℕ → List ℕ → Sorted × List ℕ
proposed ws bs out = sorted ws bs out

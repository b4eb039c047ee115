use Rattle.std.proofs.Common.{◌≡◌, ℕ, Bool, ◌&&◌, ◌<◌, ◌≤◌, List, length, get_or, ltb, refl, ◌∙◌, arith, rules, tests}
use Rattle.std.specs.List.{position_or_len, zip}
use Rattle.std.proofs.lemmas.Iterator.{YieldsList-from_slice, YieldsList-from_zip}
use Rattle.std.proofs.lemmas.Iterator.Search.{position_from_yields_List}
use Rattle.std.proofs.lemmas.List.Sums.{prefix_len-le-length, fails_before_first, passes_at_first}
use Rattle.std.proofs.lemmas.Slice.Zip.{length-zip, get_or-zip}
use mathlib.Core.Bool.{not}
use Rattle.terms.proofs.FirstLaws.{first_is}
use Rattle.graph.specs.Order.{stuck_at, first_stuck}
use Rattle.clerk.specs.inner.Listed.{edges_in}
use Rattle.clerk.specs.inner.State.{placed_of}
use Rattle.clerk.proofs.RowLaws.{row_count}
use Rattle.clerk.proofs.StateLaws.{reads_stuck}
use Rattle.clerk.proofs.State.first_stuck.Goals as goal

-- an edge whose item and target have counts of items that are not placed
abbrev waiting : List ℕ → ℕ × ℕ → Bool
waiting left e = ltb (get_or left e.0 0) 4096 && ltb (get_or left e.1 0) 4096

pub returns : goal.returns
returns c =
    let s = c.args.self.now in
    let os = c.args.edges.owners.now in
    let ts = c.args.edges.targets.now in
    let rows = c.args.edges.rows in
    let es = edges_in c.args.edges in
    let test = waiting s.left in
    let p = position_or_len test (zip os ts) in
    let size : length (zip os ts) ≡ length es = length-zip os ts ∙ omega (arith, rows.even, row_count _ _ rows) in
    let below : p ≤ length (zip os ts) = prefix_len-le-length (λ e. not (test e)) (zip os ts) in
    let reads : (k : ℕ) → k < length es → stuck_at es (placed_of s) k ≡ test (get_or (zip os ts) k (0, 0)) =
    λ k l.
    rw (get_or-zip os ts k (0, 0) (omega (arith, row_count _ _ rows)) (omega (arith, rows.even, row_count _ _ rows)))
    (reads_stuck _ _ rows _ c.requires k (omega (arith, row_count _ _ rows)) _ _ refl refl) in
    let first : first_stuck es (placed_of s) ≡ p =
    first_is (stuck_at es (placed_of s)) (length es) p (omega (arith, size, below))
    (λ k l. reads k (omega (arith, size, below)) ∙ fails_before_first test (zip os ts) k (0, 0) l)
    (λ l. reads p l ∙ passes_at_first test (zip os ts) (0, 0) (omega (arith, size))) in
    let found =
    position_from_yields_List test c.position.new.self _ c.position.result c.position.ensures.ran
    (YieldsList-from_zip (YieldsList-from_slice os cc) (YieldsList-from_slice ts cc)) (λ x b q k. search (rules, tests)) in
    found ∙ rw (first, size)

use Rattle.std.proofs.Common.{◌≡◌, ℕ, ◌≤◌, List, length, take, eqb, sym, ◌∙◌, arith, rules, tests}
use Rattle.std.specs.List.{position_or_len}
use Rattle.std.proofs.lemmas.Iterator.{YieldsList-from_slice}
use Rattle.std.proofs.lemmas.Iterator.Search.{position_from_yields_List}
use Rattle.std.proofs.lemmas.List.Sums.{prefix_len-le-length, fails_before_first, passes_at_first}
use lib.Seq.{length-take-le, get_or-take}
use mathlib.Core.Bool.{not}
use Rattle.terms.specs.Terms.{first}
use Rattle.terms.proofs.FirstLaws.{first_is}
use Rattle.clerk.specs.inner.State.{free}
use Rattle.clerk.proofs.State.next.Goals as goal

position_free : (left : List ℕ) (n : ℕ) → n ≤ length left → position_or_len (λ (x : ℕ). eqb x 0) (take n left) ≡ first (free left) 0 n
unfolding free
position_free left n h =
    sym (first_is (free left) n (position_or_len (λ (x : ℕ). eqb x 0) (take n left)) below
    (λ k l. rw (get_or-take n left k 0 (omega (arith, below))) at (fails_before_first (λ (x : ℕ). eqb x 0) (take n left) k 0 l))
    (λ l. rw (get_or-take n left (position_or_len (λ (x : ℕ). eqb x 0) (take n left)) 0 l) at (passes_at_first (λ (x : ℕ). eqb x 0) (take n left) 0 (omega (arith, length-take-le n left h)))))
  where
    below : position_or_len (λ (x : ℕ). eqb x 0) (take n left) ≤ n
    below =
        let p : position_or_len (λ (x : ℕ). eqb x 0) (take n left) ≤ length (take n left) = prefix_len-le-length (λ (x : ℕ). not (eqb x 0)) (take n left) in
        omega (arith, p, length-take-le n left h)

pub returns : goal.returns
returns c =
    let left = c.args.self.now.left in
    let n = c.args.n in
    let size : length left ≡ 256 = search rules in
    let found = position_from_yields_List (λ (x : ℕ). eqb x 0) _ _ c.position.result c.position.ensures.ran (YieldsList-from_slice (take n left) cc) (λ x b q k. search (rules, tests)) in
    found ∙ rw (position_free left n (omega arith), length-take-le n left (omega arith))

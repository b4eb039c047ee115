-- What a loop over a sheet's rows needs, and what a sheet that passes the checks of its words has.
use Rattle.std.specs.Prelude.{if◌then◌else◌, Err}
use Prim.Native.Nat.{ℕ, zero, suc, ◌+◌, ◌-◌, ◌*◌, ◌≤◌, ◌<◌, zero-le}
use mathlib.Core.Path.{◌≡◌, refl, ◌∙◌}
use mathlib.Core.Bool.{Bool, true, false, ◌&&◌}
use mathlib.Core.List.{List}
use native.Mathlib.Numerals.{add-one}
use native.Mathlib.Omega.{arith}
use lib.ListN.{length, get_or}
use lib.Dec.{eqb, leb, ltb}
use borrow.Author.Tests.{eq-eqb, ne_eqb, eqb-true, leb-true, ltb-false, lt-ltb, le-ltb}
use Rattle.terms.specs.Terms.{first}
use Rattle.terms.proofs.TestLaws.{and_both}
use Rattle.terms.proofs.FirstLaws.{first_none, first_hit, first_miss, first_end}
use Rattle.answers.specs.declared.Refusal.TheVariants.{MalformedSheet, TooManyItems, RepeatedName, ItemNotFound}
use Rattle.answers.specs.Caps.{length_verdict, first_of, accepted}
use Rattle.answers.proofs.CapsLaws.{first_both, accepted_if, length_in, refused_not}
use Rattle.answers.specs.declared.Refusal.{Refusal}
use Rattle.sheets.specs.Words.{items, listed, name_at, name_length, first_edge, edge_count}
use Rattle.sheets.specs.Checks.{head_verdict, count_verdict, headed, runs_on, outside, first_outside, shaped, shape_verdict, words_verdict, first_repeat, repeat_verdict, first_unlisted, target_verdict}
use Rattle.sheets.specs.Edges.{reaches}
use Rattle.sheets.specs.inner.Asked.{Counted, Shaped}

-- what is refused by no test passes it
not_refused : (t : Bool) (f : Refusal) → (if t then Err f else accepted) ≡ accepted → t ≡ false
not_refused true f e = absurd (refused_not e)
not_refused false f e = refl

-- where 28 accepts, no name is repeated; where 29 does, each edge names an item
module _ (ws bs : List ℕ) where
  pub distinct_of : repeat_verdict ws bs ≡ accepted → items ws ≤ first_repeat ws bs
  unfolding repeat_verdict
  distinct_of e = ltb-false (first_repeat ws bs) (items ws) (not_refused (ltb (first_repeat ws bs) (items ws)) (RepeatedName (first_repeat ws bs)) e)

  pub known_of : target_verdict ws bs ≡ accepted → listed ws ≤ first_unlisted ws bs
  unfolding target_verdict
  known_of e = ltb-false (first_unlisted ws bs) (listed ws) (not_refused (ltb (first_unlisted ws bs) (listed ws)) (ItemNotFound (first_unlisted ws bs)) e)

-- the loop of `all_inside`
module _ (ws bs : List ℕ) (rows row : ℕ) (so-far : first_outside ws bs ≡ first (outside ws bs) row (rows - row)) where
  pub outside_here : (at size : ℕ) → at ≡ name_at ws row → size ≡ name_length ws row → row < rows → length bs < at + size → false ≡ eqb (first_outside ws bs) rows
  unfolding outside
  outside_here at size p q l h =
      let e : first_outside ws bs ≡ row = so-far ∙ first_hit (outside ws bs) row rows l (lt-ltb (length bs) (name_at ws row + name_length ws row) (omega arith)) in
      rw (e, ne_eqb row rows (λ z. omega arith))

  pub inside_here : (at size : ℕ) → at ≡ name_at ws row → size ≡ name_length ws row → row < rows → at + size ≤ length bs
      → first_outside ws bs ≡ first (outside ws bs) (row + 1) (rows - (row + 1))
  unfolding outside
  inside_here at size p q l h = so-far ∙ first_miss (outside ws bs) row rows l (le-ltb (length bs) (name_at ws row + name_length ws row) (omega arith))

  pub inside_all : row ≡ rows → true ≡ eqb (first_outside ws bs) rows
  inside_all l = rw (eq-eqb (first_outside ws bs) rows (so-far ∙ first_end (outside ws bs) row rows (omega arith) ∙ l))

-- the loop of `runs_on`
module _ (ws : List ℕ) (i n k : ℕ) where
  runs_at : i < n → runs_on ws i (n - i) k ≡ (eqb (first_edge ws i) k && runs_on ws (i + 1) (n - (i + 1)) (k + edge_count ws i))
  unfolding runs_on
  runs_at l =
      let e : n - i ≡ suc (n - (i + 1)) = omega arith in
      rw (e, add-one i)

  pub runs_step : i < n → first_edge ws i ≡ k → runs_on ws i (n - i) k ≡ runs_on ws (i + 1) (n - (i + 1)) (k + edge_count ws i)
  runs_step l e = runs_at l ∙ rw (eq-eqb _ _ e)

  pub runs_gap : i < n → (first_edge ws i ≡ k → ⊥) → runs_on ws i (n - i) k ≡ false
  runs_gap l e = runs_at l ∙ rw (ne_eqb _ _ e)

  pub runs_end : n ≤ i → runs_on ws i (n - i) k ≡ eqb k (listed ws)
  unfolding runs_on
  runs_end l =
      let e : n - i ≡ 0 = omega arith in
      rw e

-- where the items' edges run on without a gap, each edge has an item
runs_owned : (ws : List ℕ) (k m i at : ℕ) → runs_on ws i m at ≡ true → at ≤ k → k < listed ws → first (reaches ws k) i m < i + m
unfolding runs_on first reaches
runs_owned ws k zero i at h a b = absurd (omega (arith, eqb-true at (listed ws) h))
runs_owned ws k (suc m) i at h a b = go (reaches ws k i) refl (runs_owned ws k m (suc i) (at + edge_count ws i))
  where
    both : (first_edge ws i ≡ at) × (runs_on ws (suc i) m (at + edge_count ws i) ≡ true)
    both =
        let t = and_both (eqb (first_edge ws i) at) (runs_on ws (suc i) m (at + edge_count ws i)) h in
        (eqb-true (first_edge ws i) at t.0, t.1)

    go : (t : Bool) → reaches ws k i ≡ t
        → (runs_on ws (suc i) m (at + edge_count ws i) ≡ true → at + edge_count ws i ≤ k → k < listed ws → first (reaches ws k) (suc i) m < suc i + m)
        → (if t then i else first (reaches ws k) (suc i) m) < i + suc m
    go true q ih = omega arith
    go false q ih = omega (arith, ih both.1 (omega (arith, ltb-false k (first_edge ws i + edge_count ws i) q, both.0)) b)

-- the word count
pub headed_size : (ws : List ℕ) → headed ws ≡ true → length ws ≡ 5 + 4 * items ws + 4 * listed ws
unfolding headed
headed_size ws h =
    let a = (and_both (eqb (get_or ws 2 0) 5) (eqb (get_or ws 3 0) (5 + 4 * items ws) && (eqb (get_or ws 4 0) (5 + 4 * items ws + 4 * listed ws) && eqb (length ws) (5 + 4 * items ws + 4 * listed ws))) h).1 in
    let b = (and_both (eqb (get_or ws 3 0) (5 + 4 * items ws)) (eqb (get_or ws 4 0) (5 + 4 * items ws + 4 * listed ws) && eqb (length ws) (5 + 4 * items ws + 4 * listed ws)) a).1 in
    eqb-true (length ws) (5 + 4 * items ws + 4 * listed ws) (and_both (eqb (get_or ws 4 0) (5 + 4 * items ws + 4 * listed ws)) (eqb (length ws) (5 + 4 * items ws + 4 * listed ws)) b).1

-- what a sheet that passes has
module _ (ws bs : List ℕ) where
  pub counted_of : head_verdict ws ≡ accepted → count_verdict ws ≡ accepted → Counted ws
  unfolding head_verdict count_verdict
  counted_of h c =
      let t = and_both (leb (items ws) 256) (leb (listed ws) 2048) (accepted_if (leb (items ws) 256 && leb (listed ws) 2048) TooManyItems c) in
      record {
        header = leb-true 5 (length ws) (accepted_if (leb 5 (length ws)) MalformedSheet h);
        few = leb-true (items ws) 256 t.0;
        few_edges = leb-true (listed ws) 2048 t.1;
      }

  pub shaped_of : Counted ws → length bs ≤ 65536 → shaped ws bs ≡ true → Shaped ws bs
  unfolding shaped outside
  shaped_of c s h =
      let a = and_both (headed ws) (runs_on ws 0 (items ws) 0 && eqb (first_outside ws bs) (items ws + listed ws)) h in
      let b = and_both (runs_on ws 0 (items ws) 0) (eqb (first_outside ws bs) (items ws + listed ws)) a.1 in
      let none : items ws + listed ws ≤ first_outside ws bs = omega (arith, eqb-true (first_outside ws bs) (items ws + listed ws) b.1) in
      record {
        few = c.few;
        few_edges = c.few_edges;
        size = headed_size ws a.0;
        short = s;
        inside = λ r l. ltb-false (length bs) (name_at ws r + name_length ws r) (first_none (outside ws bs) (items ws + listed ws) r none l);
        owned = λ k l. omega (arith, runs_owned ws k (items ws) 0 0 b.0 zero-le l);
      }

  pub words_accepted : words_verdict ws bs ≡ accepted → Shaped ws bs
  unfolding words_verdict shape_verdict
  words_accepted e =
      let a = first_both (length_verdict (length bs)) (first_of (head_verdict ws) (first_of (count_verdict ws) (shape_verdict ws bs))) e in
      let b = first_both (head_verdict ws) (first_of (count_verdict ws) (shape_verdict ws bs)) a.1 in
      let c = first_both (count_verdict ws) (shape_verdict ws bs) b.1 in
      shaped_of (counted_of b.0 c.0) (length_in (length bs) a.0) (accepted_if (shaped ws bs) MalformedSheet c.1)

-- Signatures tell names apart, and what is remembered of a name is what the search finds.
use Prim.Native.Nat.{ℕ, ◌+◌, ◌-◌, ◌*◌, ◌%◌, ◌≤◌, ◌<◌}
use mathlib.Core.Path.{◌≡◌, refl, sym, ap, ◌∙◌}
use mathlib.Core.Bool.{true, false}
use mathlib.Core.List.{List}
use native.Mathlib.Nat.{zero-add, mul-le-mul_right}
use native.Mathlib.Numerals.{add-one}
use native.Mathlib.Omega.{arith}
use lib.ListN.{length, get_or, take, drop, drop_of_length-le}
use lib.Seq.{drop-cons}
use borrow.Author.Tests.{eqb-false, lt-ltb, le-ltb}
use Rattle.terms.specs.Terms.{first, same_bytes}
use Rattle.terms.proofs.FirstLaws.{first_skip, first_miss, first_le, first_from, none_before}
use Rattle.terms.proofs.BytesLaws.{same_equal}
use Rattle.terms.proofs.TestLaws.{fails}
use Rattle.sheets.specs.Words.{items, name_of}
use Rattle.sheets.specs.Checks.{named, found, repeats, first_repeat, repeat_verdict}
use Rattle.sheets.specs.inner.Bytes.{holds, byte_from}
use Rattle.sheets.specs.inner.Signatures.{signed_from, signature_of, signatures_of, Signed}
use Rattle.sheets.proofs.EdgeLaws.{table_length, table_at, over_front}
use Rattle.sheets.proofs.CheckLaws.{distinct_of}
use Rattle.std.specs.Prelude.{Err, Option, Some, None}
use Rattle.std.specs.Option.{is_some}
use Rattle.terms.specs.Terms.{over}
use Rattle.sheets.specs.inner.Found.{before}
use Rattle.sheets.proofs.FoundLaws.{index_found, end_reached, is_found, found_here, found_none}
use Rattle.answers.specs.declared.Refusal.TheVariants.{RepeatedName}
use Rattle.answers.specs.Caps.{Verdict, accepted}

-- the loop of `signature`
module _ (name : List ℕ) (i factor step sum : ℕ) where
  pub signed_step : i < length name
      → signed_from factor step sum (drop i name) ≡ signed_from ((factor + step) % 65536) ((step + 58) % 65536) (sum + get_or name i 0 * factor) (drop (i + 1) name)
  unfolding signed_from
  signed_step l = rw (add-one, drop-cons name i 0)

  pub signed_end : length name ≤ i → signed_from factor step sum (drop i name) ≡ sum % 256
  unfolding signed_from
  signed_end l = rw (drop_of_length-le name l)

-- a byte times a factor below 65,536
pub product_small : (b f : ℕ) → b ≤ 255 → f < 65536 → b * f ≤ 16711425
product_small b f p q = omega (arith, mul-le-mul_right f p)

-- names with two signatures are two names
module _ (ws bs key : List ℕ) where
  signed_apart : (j : ℕ) → (signature_of (name_of ws bs j) ≡ signature_of key → ⊥) → named ws bs key j ≡ false
  unfolding named
  signed_apart j h = fails (same_bytes (name_of ws bs j) key) (λ t. h (ap signature_of (same_equal (name_of ws bs j) key t)))

  -- the search goes on where the next signature agrees
  pub found_on : (ss : List ℕ) (k r s : ℕ) → ss ≡ signatures_of ws bs (length ss) → s ≡ signature_of key → k ≤ length ss → r ≡ byte_from ss k s
      → (r ≤ length ss) × (first (named ws bs key) k (length ss - k) ≡ first (named ws bs key) r (length ss - r))
  unfolding holds
  found_on ss k r s all is l e = (below, rw onto at (first_skip (named ws bs key) (r - k) k (length ss) (omega (arith, onto, below)) other))
    where
      below : r ≤ length ss
      below = omega (arith, first_le (holds ss s) (length ss - k) k)

      onto : k + (r - k) ≡ r
      onto = omega (arith, first_from (holds ss s) (length ss - k) k)

      entry : (j : ℕ) → j < length ss → get_or ss j 0 ≡ signature_of (name_of ws bs j)
      entry j h = ap (λ (l : List ℕ). get_or l j 0) all ∙ table_at (λ (i : ℕ). signature_of (name_of ws bs i)) 0 (length ss) j h ∙ ap (λ (i : ℕ). signature_of (name_of ws bs i)) (zero-add j)

      other : (j : ℕ) → k ≤ j → j < k + (r - k) → named ws bs key j ≡ false
      other j a b =
          signed_apart j (λ q. eqb-false (get_or ss j 0) s (none_before (holds ss s) (length ss - k) k j a (omega (arith, onto))) (entry j (omega (arith, onto, below)) ∙ q ∙ sym is))

-- the loop of `find`, where all items before `from` have other names, and the byte search goes on from there
module _ (ws bs key ss : List ℕ) (from s : ℕ) (all : ss ≡ signatures_of ws bs (length ss)) (is : s ≡ signature_of key) (within : from ≤ length ss)
    (so-far : found ws bs (length ss) key ≡ first (named ws bs key) from (length ss - from)) where
  module _ (i : ℕ) (got : Some i ≡ before (length ss) (byte_from ss from s)) where
    stops_at : found ws bs (length ss) key ≡ first (named ws bs key) i (length ss - i)
    stops_at = so-far ∙ (found_on ws bs key ss from i s all is within (index_found (length ss) (byte_from ss from s) i got).0).1

    pub stops_in : (from ≤ i) × (i < length ss)
    unfolding holds
    stops_in =
        let f = index_found (length ss) (byte_from ss from s) i got in
        let e : i ≡ byte_from ss from s = f.0 in
        (omega (arith, first_from (holds ss s) (length ss - from) from), f.1)

    module _ (name : List ℕ) (named-so : name ≡ name_of ws bs i) where
      pub named_here : same_bytes name key ≡ true → Some i ≡ before (length ss) (found ws bs (length ss) key)
      unfolding named
      named_here t = found_here (named ws bs key) (length ss) i (found ws bs (length ss) key) stops_at stops_in.1 (rw named-so at t)

      pub named_later : same_bytes name key ≡ false → found ws bs (length ss) key ≡ first (named ws bs key) (i + 1) (length ss - (i + 1))
      unfolding named
      named_later t = stops_at ∙ first_miss (named ws bs key) i (length ss) stops_in.1 (rw named-so at t)

  pub named_nowhere : ◌≡◌ {A = Option ℕ} None (before (length ss) (byte_from ss from s)) → None ≡ before (length ss) (found ws bs (length ss) key)
  named_nowhere e =
      found_none (named ws bs key) (length ss) (byte_from ss from s) (found ws bs (length ss) key)
      (so-far ∙ (found_on ws bs key ss from (byte_from ss from s) s all is within refl).1)
      (end_reached (length ss) (byte_from ss from s) e)

-- the loop of `sign`: the signatures before item i are at the front
module _ (ws bs ss₀ ss : List ℕ) (i : ℕ) (written : ss ≡ over (signatures_of ws bs i) ss₀) where
  pub front_length : length (take i ss) ≡ i
  front_length = rw (written, over_front (λ (j : ℕ). signature_of (name_of ws bs j)) ss₀ i) (table_length (λ (j : ℕ). signature_of (name_of ws bs j)) 0 i)

  pub front_signed : take i ss ≡ signatures_of ws bs (length (take i ss))
  front_signed = rw front_length (rw written (over_front (λ (j : ℕ). signature_of (name_of ws bs j)) ss₀ i))

  pub finds_repeat : (name : List ℕ) (o : Option ℕ) → name ≡ name_of ws bs i → o ≡ before (length (take i ss)) (found ws bs (length (take i ss)) name) → is_some o ≡ repeats ws bs i
  unfolding repeats
  finds_repeat name o n e = rw (e, front_length, n) (is_found i (found ws bs i (name_of ws bs i)))

-- the verdict on repeated names
module _ (ws bs : List ℕ) (i : ℕ) (is : first_repeat ws bs ≡ i) where
  pub refuses_repeat : i < items ws → Err (RepeatedName i) ≡ repeat_verdict ws bs
  unfolding repeat_verdict
  refuses_repeat l = rw (is, lt-ltb i (items ws) l)

  pub accepts_names : items ws ≤ i → accepted ≡ repeat_verdict ws bs
  unfolding repeat_verdict
  accepts_names l = rw (is, le-ltb i (items ws) l)

-- where no name is repeated, the signatures of all items are there
pub signed_all : (ws bs ss : List ℕ) (n : ℕ) (answer : Verdict) (ss' : List ℕ) → Signed ws bs ss answer ss' → n ≡ items ws → answer ≡ accepted
    → (length (take n ss') ≡ items ws) × (take n ss' ≡ signatures_of ws bs (items ws))
signed_all ws bs ss n answer ss' s e ok = (ap length all ∙ table_length (λ (j : ℕ). signature_of (name_of ws bs j)) 0 (items ws), all)
  where
    every : first_repeat ws bs ≡ items ws
    every = omega (arith, distinct_of ws bs (sym s.verdict ∙ ok), first_le (repeats ws bs) (items ws) 0)

    all : take n ss' ≡ signatures_of ws bs (items ws)
    all = rw (e, s.signatures, every) (over_front (λ (j : ℕ). signature_of (name_of ws bs j)) ss (items ws))

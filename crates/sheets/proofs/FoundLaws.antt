-- A search's loop, at its two returns: what the code answers is the index that the definition finds, or none.
use Rattle.std.specs.Prelude.{Option, Some, None, if◌then◌else◌}
use Rattle.std.specs.Option.{is_some}
use Prim.Native.Nat.{ℕ, ◌-◌, ◌≤◌, ◌<◌}
use mathlib.Core.Path.{◌≡◌, refl}
use mathlib.Core.Bool.{Bool, true, false}
use native.Mathlib.Omega.{arith}
use borrow.Author.Tests.{lt-ltb, le-ltb, ltb-true, ltb-false}
use lib.Dec.{ltb}
use Rattle.terms.specs.Terms.{first}
use Rattle.terms.proofs.FirstLaws.{first_hit, first_end}
use Rattle.sheets.specs.inner.Found.{before}

-- an index before the end, and the end
pub before_some : (n r i : ℕ) → r ≡ i → i < n → Some i ≡ before n r
before_some n r i e l = rw (e, lt-ltb i n l)

pub before_none : (n r : ℕ) → n ≤ r → None ≡ before n r
before_none n r l = rw (le-ltb r n l)

-- and what such an answer says of the index
pub index_found : (n r i : ℕ) → Some i ≡ before n r → (i ≡ r) × (i < n)
index_found n r i e = go (ltb r n) refl e
  where
    go : (t : Bool) → ltb r n ≡ t → Some i ≡ (if t then Some r else None) → (i ≡ r) × (i < n)
    go true q d =
        let s : i ≡ r = cc in
        (s, omega (arith, ltb-true r n q))
    go false q d = absurd (cc)

pub end_reached : (n r : ℕ) → ◌≡◌ {A = Option ℕ} None (before n r) → n ≤ r
end_reached n r e = go (ltb r n) refl e
  where
    go : (t : Bool) → ltb r n ≡ t → ◌≡◌ {A = Option ℕ} None (if t then Some r else None) → n ≤ r
    go true q d = absurd (cc)
    go false q d = ltb-false r n q

pub is_found : (n r : ℕ) → is_some (before n r) ≡ ltb r n
is_found n r = go (ltb r n)
  where
    go : (t : Bool) → is_some (if t then Some r else None) ≡ t
    go true = refl
    go false = refl

module _ (test : ℕ → Bool) (n i r : ℕ) (so-far : r ≡ first test i (n - i)) where
  pub found_here : i < n → test i ≡ true → Some i ≡ before n r
  found_here l t = rw (so-far, first_hit test i n l t) (before_some n i i refl l)

  pub found_none : n ≤ i → None ≡ before n r
  found_none l = rw (so-far, first_end test i n l) (before_none n i l)

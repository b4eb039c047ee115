-- THE SHORT RULE: up to U+02C1 the lists of Unicode say what 01 says.
-- The first few ranges are compared with it at each code point, and every other range begins later.
use Prim.Native.Nat.{ℕ, zero, suc, ◌≤◌, ◌<◌, suc-le-suc}
use mathlib.Core.Path.{◌≡◌, refl, ap, ◌∙◌}
use mathlib.Core.Bool.{Bool, true, ◌||◌}
use mathlib.Core.List.{List, [], ◌∷◌}
use native.Mathlib.Omega.{arith}
use lib.Dec.{eqb}
use lib.ListN.{take, drop}
use Rattle.terms.specs.Terms.{within, said}
use Rattle.terms.proofs.BelowLaws.{all_below, alike, alike_below}
use Rattle.chars.specs.inner.Runs.{in_set}
use Rattle.classes.specs.Ranges.{member, ordered_from}
use Rattle.classes.specs.XidStart.{xid_starts}
use Rattle.classes.specs.XidContinue.{xid_continues}
use Rattle.classes.specs.Classes.{xid_start, xid_continue, keylike_continue, short_starts, short_start, short_continue}
use Rattle.classes.specs.inner.Runs.{keylike_set}
use Rattle.classes.proofs.RangeLaws as ranges

-- where all but the first k ranges begin at b or later, only those k count below b
front : (k : ℕ) (rs : List (ℕ × ℕ)) (b c : ℕ) → ordered_from b (drop k rs) ≡ true → c < b → member rs c ≡ member (take k rs) c
unfolding member
front zero rs b c t h = ranges.below b rs c t h
front (suc k) [] b c t h = refl
front (suc k) (r ∷ rs) b c t h = ap (λ (m : Bool). within r.0 r.1 c || m) (front k rs b c t h)

-- the law for any list and any rule
rule : (k n : ℕ) (rs : List (ℕ × ℕ)) (short : ℕ → Bool) → ordered_from n (drop k rs) ≡ true
    → all_below n (λ c. alike (member (take k rs) c) (short c)) ≡ true → (c : ℕ) → c < n → member rs c ≡ short c
rule k n rs short later each c h =
    front k rs n c later h ∙ alike_below n (member (take k rs)) short each c h

-- of the lists, 8 and 11 ranges begin up to U+02C1
pub start_short : (c : ℕ) → c ≤ 0x2C1 → xid_start c ≡ short_start c
unfolding xid_start xid_starts short_start short_starts said within ordered_from member alike all_below
start_short c h = rule 8 0x2C2 xid_starts short_start refl refl c (suc-le-suc h)

pub continue_short : (c : ℕ) → c ≤ 0x2C1 → xid_continue c ≡ short_continue c
unfolding xid_continue xid_continues short_continue short_start short_starts said within ordered_from member alike all_below
continue_short c h = rule 11 0x2C2 xid_continues short_continue refl refl c (suc-le-suc h)

-- so a keylike continuation below 0x80 is a byte of its set, which is computed over all of them
pub keylike_ascii : (b : ℕ) → b < 128 → keylike_continue b ≡ in_set keylike_set b
unfolding keylike_continue keylike_set in_set short_continue short_start short_starts said within alike all_below
keylike_ascii b h = rw (continue_short b (omega arith)) (alike_below 128 (λ x. eqb x 0x2D || short_continue x) (in_set keylike_set) each b h)
  where
    each : all_below 128 (λ x. alike (eqb x 0x2D || short_continue x) (in_set keylike_set x)) ≡ true
    each = refl

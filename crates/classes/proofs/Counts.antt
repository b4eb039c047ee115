-- How many ranges and code points each list has.
-- Unicode 14.0, written by `tools/unicode/ranges.py DerivedCoreProperties.txt DerivedAge.txt 14.0`; not to be changed by hand.
use Prim.Native.Nat.{ℕ, ◌+◌, ◌-◌}
use mathlib.Core.Path.{◌≡◌, refl}
use mathlib.Core.List.{List, [], ◌∷◌}
use lib.ListN.{length}
use Rattle.classes.specs.XidStart.{xid_starts}
use Rattle.classes.specs.XidContinue.{xid_continues}

-- how many code points ranges have that do not overlap
unfoldable size : List (ℕ × ℕ) → ℕ
size [] = 0
size (r ∷ rs) = r.1 + 1 - r.0 + size rs

starts_ranges : length xid_starts ≡ 655
unfolding xid_starts
starts_ranges = refl

starts_points : size xid_starts ≡ 131974
unfolding xid_starts size
starts_points = refl

continues_ranges : length xid_continues ≡ 763
unfolding xid_continues
continues_ranges = refl

continues_points : size xid_continues ≡ 135053
unfolding xid_continues size
continues_points = refl

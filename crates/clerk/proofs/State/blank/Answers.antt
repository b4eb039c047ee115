use Rattle.std.proofs.Common.{ℕ, refl}
use lib.ListN.{get_or-replicate}
use Rattle.clerk.proofs.State.blank.Goals as goal

pub returns : goal.returns
returns c = record {
  none_left = λ i h. get_or-replicate {A = ℕ} 256 i 0 0 h;
  none_placed = refl;
  none_settled = refl;
  long = refl;
}

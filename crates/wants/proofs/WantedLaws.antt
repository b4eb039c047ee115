-- What the check of a wanted kind leaves.
use Prim.Native.Nat.{ℕ, ◌≤◌}
use mathlib.Core.Path.{◌≡◌}
use lib.Dec.{leb}
use borrow.Author.Tests.{leb-true}
use Rattle.answers.specs.declared.Refusal.{Refusal}
use Rattle.answers.specs.Caps.{accepted}
use Rattle.answers.proofs.CapsLaws.{accepted_if}
use Rattle.wants.specs.Wanted.{kind_verdict}

-- a step for a kind wants one of the 67
pub wanted_in : (wanted : ℕ) → kind_verdict wanted ≡ accepted → wanted ≤ 66
unfolding kind_verdict
wanted_in wanted e = leb-true wanted 66 (accepted_if (leb wanted 66) Refusal.BadSpan e)

use Rattle.std.proofs.Common.{length}
use Rattle.sheets.specs.inner.Bytes.{Rest}
use Rattle.sheets.proofs.bytes.skip.Given as goal

abbrev pub invariant-loop-chunk : goal.invariant-loop-chunk
invariant-loop-chunk l = Rest l.bytes l.x l.rest

abbrev pub decreases-loop-chunk : goal.decreases-loop-chunk
decreases-loop-chunk l = length l.rest

-- No byte before k stops the search, so it is the search from k on.
use Rattle.std.proofs.Common.{◌≡◌, ◌-◌, ◌≤◌, max}
use Rattle.terms.specs.Terms.{first}
use Rattle.screening.specs.inner.Plain.{halts_at}
use Rattle.screening.proofs.plain.stop_near.Given as goal

abbrev pub invariant-loop-k : goal.invariant-loop-k
invariant-loop-k l =
    (l.k ≤ max l.from l.end)
    × (first (halts_at l.text l.less) l.from (l.end - l.from) ≡ first (halts_at l.text l.less) l.k (l.end - l.k))

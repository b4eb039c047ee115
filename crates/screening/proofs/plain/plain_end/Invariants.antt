-- No byte before k ends the plain text, so the search from k on is the whole search.
use Rattle.std.proofs.Common.{◌≡◌, ◌-◌, ◌≤◌, max}
use Rattle.terms.specs.Terms.{first}
use Rattle.screening.specs.inner.Plain.{halts_at}
use Rattle.screening.proofs.plain.plain_end.Given as goal

abbrev pub invariant-loop-k : goal.invariant-loop-k
invariant-loop-k l =
    (l.k ≤ max l.end l.initial.k)
    × (first (halts_at l.text l.less) l.initial.k (l.end - l.initial.k) ≡ first (halts_at l.text l.less) l.k (l.end - l.k))

abbrev pub decreases-loop-k : goal.decreases-loop-k
decreases-loop-k l = l.end - l.k

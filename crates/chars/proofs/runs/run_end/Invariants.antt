-- No byte before k stops the search, so it is the search from k on.
use Rattle.std.proofs.Common.{◌≡◌, ◌-◌, ◌≤◌, max}
use Rattle.terms.specs.Terms.{first}
use Rattle.chars.specs.inner.Runs.{stops_at}
use Rattle.chars.proofs.runs.run_end.Given as goal

abbrev pub invariant-loop-k : goal.invariant-loop-k
invariant-loop-k l =
    (l.k ≤ max l.at.0 l.end)
    × (first (stops_at l.text l.set) l.at.0 (l.end - l.at.0) ≡ first (stops_at l.text l.set) l.k (l.end - l.k))

-- The bytes so far are at the front of the buffer, and no mark is among them.
use Rattle.answers.specs.Places.{place}
use Rattle.strings.proofs.WritingLaws.{Copied}
use Rattle.strings.proofs.decoding.copy_raw.Given as goal

abbrev pub invariant-loop-k : goal.invariant-loop-k
invariant-loop-k l = Copied l.text (place l.start) l.initial.buffer l.k l.buffer

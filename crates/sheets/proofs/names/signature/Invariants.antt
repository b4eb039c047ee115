use Rattle.std.proofs.Common.{◌≡◌, ◌*◌, ◌≤◌, ◌<◌, drop}
use Rattle.sheets.specs.inner.Signatures.{signed_from, signature_of}
use Rattle.sheets.proofs.names.signature.Given as goal

abbrev pub invariant-loop-b : goal.invariant-loop-b
invariant-loop-b l = record {
  factor-small : l.factor < 65536;
  step-small : l.step < 65536;
  sum-small : l.sum ≤ l.b-index * 16777216;
  so-far : signature_of l.name ≡ signed_from l.factor l.step l.sum (drop l.b-index l.name);
}

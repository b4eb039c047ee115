-- Behind the tests the first byte is a letter of its case, the last is no `-`, and each byte may follow the one before (`one_case_accepted`).
use Rattle.std.proofs.Common.{arith}
use Rattle.names.proofs.OneCaseLaws.{one_case_accepted}
use Rattle.names.proofs.single_case.one_case.Goals as goal

pub returns-then-has : goal.returns-then-has
returns-then-has c z q =
    one_case_accepted q c.args.text.now c.args.from.0 c.args.end.0 (omega arith) (omega arith) (omega arith)
    (λ e. omega (arith, e))
    (rw (← c.of-case.ensures, ← c.has.ensures) c.if-has.true)
    (rw (← c.of-case.ensures) (c.joins.ensures z))

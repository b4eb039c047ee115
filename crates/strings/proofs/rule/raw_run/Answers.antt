-- Bare bytes by `raw_to`, and a character of several bytes by `raw_high`.
use Rattle.std.proofs.Common.{◌≡◌, ◌≤◌, ◌-◌, sym, ◌∙◌, Some, Ok, arith}
use Rattle.chars.specs.Utf8.{char_at}
use Rattle.chars.proofs.Utf8Laws.{onward}
use Rattle.chars.proofs.RunLaws.{run_beyond}
use Rattle.strings.specs.inner.Walking.{bare, Raw}
use Rattle.strings.proofs.RawLaws.{raw_to, raw_high}
use Rattle.strings.proofs.rule.raw_run.Goals as goal
use Rattle.strings.proofs.rule.raw_run.Goals.{After-run_end-next, In-Ok-Some}

-- where the bare bytes are passed
beyond : (c : After-run_end-next) → c.loop-at.next.0 ≤ c.run_end-next.result.0
beyond c = rw c.run_end-next.ensures (run_beyond c.args.text.now bare c.loop-at.next)

raw : (c : After-run_end-next) → Raw c.args.text.now c.args.at (c.run_end-next.result.0 - c.args.at.0)
raw c = rw c.run_end-next.ensures (raw_to _ _ c.loop-at.next c.loop-at.invariant.begun c.loop-at.invariant.raw)

-- and where a character was read behind them
stands : (c : In-Ok-Some) → char_at c.args.text.now c.run_end-next.result ≡ Ok (Some (c.in-Ok-Some.field-0-0-0, c.in-Ok-Some.behind))
stands c = sym c.read_at.ensures ∙ c.in-Ok-Some.is ∙ rw c.in-Ok-Some.field-0-is

pub overflow_sub-result : goal.overflow_sub-result
overflow_sub-result c = omega (arith, beyond (goal.at.overflow_sub-result c).After-run_end-next)

pub returns-then-byte_at-lt128 : goal.returns-then-byte_at-lt128
returns-then-byte_at-lt128 c = raw (goal.at.returns-then-byte_at-lt128 c).After-run_end-next

pub overflow_sub-result-in_default : goal.overflow_sub-result-in_default
overflow_sub-result-in_default c = omega (arith, beyond (goal.at.overflow_sub-result-in_default c).After-run_end-next)

pub returns-in_default : goal.returns-in_default
returns-in_default c = raw (goal.at.returns-in_default c).After-run_end-next

pub loop-at-smaller : goal.loop-at-smaller
loop-at-smaller c =
    let at = goal.at.loop-at-smaller c in
    omega (arith, beyond at.After-run_end-next, onward _ _ _ _ (stands at.In-Ok-Some))

pub loop-at-preserved : goal.loop-at-preserved
loop-at-preserved c =
    let at = goal.at.loop-at-preserved c in
    let b = beyond at.After-run_end-next in
    record {
      begun = omega (arith, onward _ _ _ _ (stands at.In-Ok-Some));
      raw = raw_high _ c.args.at c.run_end-next.result.0 _ _ (omega arith) (raw at.After-run_end-next) (stands at.In-Ok-Some)
          (rw c.byte_at.ensures at c.if-byte_at-lt128.false);
    }

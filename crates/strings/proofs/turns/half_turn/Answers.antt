-- Half a byte and a digit are below 16, so the sum fits.
use Rattle.std.proofs.Common.{◌<◌, ◌∙◌, sym, ap, arith}
use Rattle.std.specs.Result.{result_ok}
use Rattle.strings.proofs.DigitLaws.{hex_low}
use Rattle.strings.proofs.turns.half_turn.Goals as goal

pub overflow_add-result : goal.overflow_add-result
overflow_add-result c =
    let h : c.in_ok-digit.digit < 16 = hex_low c.args.c _ (sym c.to_hex.ensures ∙ c.ok_or.ensures.ok_part ∙ ap result_ok c.in_ok-digit.was) in
    omega arith

-- A digit is below 16.
use Rattle.strings.proofs.DigitLaws.{hex_low}
use Rattle.strings.proofs.Digits.turn.Goals as goal

pub more-requires : goal.more-requires
more-requires c = hex_low c.args.c _ (cc)

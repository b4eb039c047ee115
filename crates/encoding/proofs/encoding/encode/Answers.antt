-- The arm tells the size, so that each byte has room; the bytes stored one by one are those of `encode`, by `encoded_by`.
use Rattle.std.proofs.Common.{arith}
use Rattle.std.proofs.Math.ListN.{length-set}
use Rattle.chars.proofs.Utf8Laws.{scalar_at_most}
use Rattle.chars.proofs.EncodeLaws.{size_two, size_three, size_four, encode_one, encode_two, encode_three, encode_four, encoded_by}
use Rattle.encoding.proofs.encoding.encode.Goals as goal

pub bounds-buffer-1 : goal.bounds-buffer-1
bounds-buffer-1 c = simp length-set (omega (arith, size_two))

pub bounds-buffer-1-in-2048-to-65535 : goal.bounds-buffer-1-in-2048-to-65535
bounds-buffer-1-in-2048-to-65535 c = simp length-set (omega (arith, size_three))

pub bounds-buffer-2 : goal.bounds-buffer-2
bounds-buffer-2 c = simp length-set (omega (arith, size_three))

pub overflow_cast-buffer-in_default : goal.overflow_cast-buffer-in_default
overflow_cast-buffer-in_default c = omega (arith, scalar_at_most c.args.c cc)

pub bounds-buffer-1-in_default : goal.bounds-buffer-1-in_default
bounds-buffer-1-in_default c = simp length-set (omega (arith, size_four))

pub bounds-buffer-2-in_default : goal.bounds-buffer-2-in_default
bounds-buffer-2-in_default c = simp length-set (omega (arith, size_four))

pub bounds-buffer-3 : goal.bounds-buffer-3
bounds-buffer-3 c = simp length-set (omega (arith, size_four))

pub returns-in-0-to-127 : goal.returns-in-0-to-127
returns-in-0-to-127 c = rw c.width-size.ensures (encoded_by c.args.c _ (cc) _ (encode_one _ (omega arith)) (omega arith))

pub returns-in-128-to-2047 : goal.returns-in-128-to-2047
returns-in-128-to-2047 c = rw c.width-size.ensures (encoded_by c.args.c _ (cc) _ (encode_two _ (omega arith) (omega arith)) (omega arith))

pub returns-in-2048-to-65535 : goal.returns-in-2048-to-65535
returns-in-2048-to-65535 c = rw c.width-size.ensures (encoded_by c.args.c _ (cc) _ (encode_three _ (omega arith) (omega arith)) (omega arith))

pub returns-in_default : goal.returns-in_default
returns-in_default c = rw c.width-size.ensures (encoded_by c.args.c _ (cc) _ (encode_four _ (omega arith)) (omega arith))

use Rattle.std.proofs.Common.{refl}
use Rattle.std.specs.Int.Bits.{bit_xor}
use Rattle.op_table.specs.Value.{sum_digit}
use Rattle.op_table.proofs.Digits.{digits_by_steps, xor_by_sum}
use Rattle.op_table.proofs.bitwise.xor.Goals as goal

pub returns : goal.returns
returns c = digits_by_steps sum_digit bit_xor refl xor_by_sum c.args.width c.args.a c.args.b c.requires.first c.requires.second

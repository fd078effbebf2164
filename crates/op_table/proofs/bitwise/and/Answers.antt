use Rattle.std.proofs.Common.{min, bit_and, refl}
use Rattle.std.specs.Int.Bits.{and_step}
use Rattle.op_table.proofs.Digits.{digits_by_steps}
use Rattle.op_table.proofs.bitwise.and.Goals as goal

pub returns : goal.returns
returns c = digits_by_steps min bit_and refl and_step c.args.width c.args.a c.args.b c.requires.first c.requires.second

use Rattle.std.proofs.Common.{max, bit_or, refl}
use Rattle.std.specs.Int.Bits.{or_step}
use Rattle.op_table.proofs.Digits.{digits_by_steps}
use Rattle.op_table.proofs.bitwise.or.Goals as goal

pub returns : goal.returns
returns c = digits_by_steps max bit_or refl or_step c.args.width c.args.a c.args.b c.requires.first c.requires.second

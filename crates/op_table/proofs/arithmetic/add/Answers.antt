use Rattle.std.proofs.Common.{◌∙◌, ◌+◌}
use Rattle.op_table.proofs.Bits.{mod_of_mod}
use Rattle.op_table.proofs.arithmetic.add.Goals as goal

pub returns : goal.returns
returns c = c.low_bits.ensures ∙ mod_of_mod (c.args.a + c.args.b) c.args.width 64 c.requires.narrow

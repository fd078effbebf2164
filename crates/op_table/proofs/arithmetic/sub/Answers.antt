use Rattle.std.proofs.Common.{◌∙◌, ◌+◌, ◌-◌, ◌^◌, arith}
use Rattle.op_table.proofs.Bits.{mod_of_mod, difference_mod}
use Rattle.op_table.proofs.arithmetic.sub.Goals as goal

pub returns : goal.returns
returns c =
    c.low_bits.ensures ∙ mod_of_mod (c.args.a + (2 ^ 64 - c.args.b)) c.args.width 64 c.requires.narrow
    ∙ difference_mod c.args.width c.args.a c.args.b c.requires.narrow (omega arith)

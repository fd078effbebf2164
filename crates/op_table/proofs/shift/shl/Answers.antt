use Rattle.std.proofs.Common.{◌∙◌, ◌*◌, ◌^◌, sym, arith}
use Rattle.op_table.proofs.Bits.{mod_of_mod}
use Rattle.op_table.proofs.Shifts.{shifted_out_left}
use Rattle.op_table.proofs.shift.shl.Goals as goal

pub returns-then-b-from : goal.returns-then-b-from
returns-then-b-from c = c.low_bits.ensures ∙ mod_of_mod (c.args.a * 2 ^ c.args.b) c.args.width 64 c.requires.narrow

pub returns-else-b-from : goal.returns-else-b-from
returns-else-b-from c = sym (shifted_out_left c.args.width c.args.a c.args.b (omega arith))

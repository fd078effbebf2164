use Rattle.std.proofs.Common.{sym, arith}
use Rattle.op_table.proofs.Shifts.{shifted_out_right}
use Rattle.op_table.proofs.shift.lshr.Goals as goal

pub returns-else-b-from : goal.returns-else-b-from
returns-else-b-from c = sym (shifted_out_right c.args.width c.args.a c.args.b c.requires.fits (omega arith))

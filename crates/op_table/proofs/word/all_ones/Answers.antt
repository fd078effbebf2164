use Rattle.op_table.proofs.Bits.{ones_of_width}
use Rattle.op_table.proofs.word.all_ones.Goals as goal

pub returns : goal.returns
returns c = ones_of_width c.args.width c.requires.narrow

use Rattle.std.proofs.lemmas.Nat.{and_mask}
use Rattle.op_table.proofs.word.low_bits.Goals as goal

pub returns : goal.returns
returns c = rw c.all_ones.ensures (and_mask c.args.word c.args.width)

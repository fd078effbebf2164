use Rattle.std.proofs.Common.{arith}
use Rattle.std.proofs.lemmas.Grind.{common_steps}
use Rattle.dot_text.proofs.Lines.{next_pair}
use Rattle.dot_text.proofs.print.push_pairs.Goals as goal

pub loop-index-preserved : goal.loop-index-preserved
loop-index-preserved c =
    let next = next_pair c.args.pairs.now c.loop-index.index c.index-pairs-index.result (omega arith) in
    grind (arith, common_steps, next)

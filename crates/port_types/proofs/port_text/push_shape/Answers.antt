use Rattle.std.proofs.Common.{arith}
use Rattle.std.proofs.lemmas.Grind.{common_steps}
use Rattle.port_types.proofs.Joined.{next_width}
use Rattle.port_types.proofs.port_text.push_shape.Goals as goal

pub loop-index-preserved : goal.loop-index-preserved
loop-index-preserved c =
    let next = next_width c.args.widths.now c.loop-index.index (omega arith) in
    grind (arith, common_steps, next)

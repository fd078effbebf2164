use Rattle.std.proofs.Common.{true≢false, sym, arith}
use Rattle.loop_body.proofs.Weights.{weight_step}
use Rattle.loop_body.proofs.kinds.are_light.Goals as goal

pub returns-in-None : goal.returns-in-None
returns-in-None c =
    let step = weight_step c.args.nodes.now c.loop-node.node-index c.node-item.result c.loop-node-test.true c.node-item.is in
    (λ e. absurd (true≢false (sym e)), λ le. absurd (omega (arith, step, le, c.in-None.ensures, c.loop-node.invariant)))

pub loop-node-preserved : goal.loop-node-preserved
loop-node-preserved c =
    let step = weight_step c.args.nodes.now c.loop-node.node-index c.node-item.result c.loop-node-test.true c.node-item.is in
    omega (arith, step, c.in-Some.ensures, c.loop-node.invariant)

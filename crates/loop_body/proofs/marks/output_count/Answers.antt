use Rattle.std.proofs.Common.{length, ap, arith}
use Rattle.fun_expr.specs.Each.{total}
use Rattle.components.specs.Kind.{KindOk}
use Rattle.loop_body.specs.Judging.{rows_of}
use Rattle.loop_body.proofs.Judged.{kind_each, kind_first}
use Rattle.loop_body.proofs.marks.output_count.Goals as goal

pub outputs-requires : goal.outputs-requires
outputs-requires c = kind_each KindOk c.args.nodes.now c.loop-node.node-index c.node-item.result c.loop-node-test.true c.node-item.is c.requires.nodes_ok

pub loop-node-preserved : goal.loop-node-preserved
loop-node-preserved c =
    let first = ap (λ ks. total length (rows_of ks)) (kind_first c.args.nodes.now c.loop-node.node-index c.node-item.result c.loop-node-test.true c.node-item.is) in
    (omega (arith, first, c.outputs.ensures, c.loop-node.invariant.0), omega (arith, c.loop-node.invariant.1))

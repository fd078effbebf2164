use Rattle.std.proofs.Common.{◌+◌, ◌∷◌, drop}
use Rattle.components.specs.Kind.{KindOk}
use Rattle.loop_body.specs.Judging.{kinds_of, rows_of, unmarked}
use Rattle.loop_body.proofs.Judged.{kind_each, kind_first}
use Rattle.loop_body.proofs.Rooting.{unmarked_step}
use Rattle.loop_body.proofs.marks.unmarked_rows.Goals as goal

pub outputs-requires-in-loop-node : goal.outputs-requires-in-loop-node
outputs-requires-in-loop-node c = kind_each KindOk c.args.nodes.now c.loop-node.node-index c.node-item.result c.loop-node-test.true c.node-item.is c.requires.nodes_ok

pub loop-node-preserved : goal.loop-node-preserved
loop-node-preserved c =
    let kinds = kinds_of c.args.nodes.now in
    let first = kind_first c.args.nodes.now c.loop-node.node-index c.node-item.result c.loop-node-test.true c.node-item.is in
    unmarked_step c.loop-node.rows.items c.push-in-loop-node.new.self.items c.in_ok-new-2.field-0 c.outputs-in-loop-node.result (drop c.loop-node.node-index kinds) (drop (c.loop-node.node-index + 1) kinds)
    c.node-item.result.kind (unmarked (rows_of (c.args.split.now ∷ kinds))) first c.in_ok-push-2.ensures.items c.in_ok-new-2.ensures c.outputs-in-loop-node.ensures c.loop-node.invariant

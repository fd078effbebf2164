use Rattle.std.proofs.Common.{◌≡◌, Some, sym, ap, subst, ◌∙◌}
use Rattle.std.specs.FinMap as finite
use Rattle.port_types.specs.declared.side.Side.TheVariants.{Ins, Outs}
use Rattle.graph_core.specs.GraphValue.{port_of}
use Rattle.graph_core.specs.Wiring.{HasPort}
use Rattle.subst_engine.proofs.OuterPorts.{exit_input, before, port_node, port_node_in}
use Rattle.subst_engine.proofs.wires.outer_target.Goals as goal

pub twin-requires : goal.twin-requires
twin-requires c =
    let p = port_of c.args.right.now c.args.exit in
    port_node_in c.args.left.now.graph p (exit_input c.args.g.now.graph c.args.left.now.graph c.args.right.now.graph c.requires.can p c.requires.exit)

pub source_of-inside-requires-clause-there : goal.source_of-inside-requires-clause-there
source_of-inside-requires-clause-there c =
    let p = port_of c.args.right.now c.args.exit in
    subst (HasPort c.args.left.now.graph Ins) (sym c.twin.ensures) (exit_input c.args.g.now.graph c.args.left.now.graph c.args.right.now.graph c.requires.can p c.requires.exit)

pub twin-requires-2 : goal.twin-requires-2
twin-requires-2 c =
    let p = port_of c.args.right.now c.args.exit in
    let q = port_of c.args.left.now c.source_of-inside.result in
    let fed : finite.get c.args.left.now.graph.feeders p ≡ Some q = ap (finite.get c.args.left.now.graph.feeders) (sym c.twin.ensures) ∙ c.source_of-inside.ensures in
    port_node c.args.g.now.graph q (before c.args.g.now.graph c.args.left.now.graph c.args.right.now.graph c.requires.can p q c.requires.exit fed)

pub target_of-requires-clause-there : goal.target_of-requires-clause-there
target_of-requires-clause-there c =
    let p = port_of c.args.right.now c.args.exit in
    let q = port_of c.args.left.now c.source_of-inside.result in
    let fed : finite.get c.args.left.now.graph.feeders p ≡ Some q = ap (finite.get c.args.left.now.graph.feeders) (sym c.twin.ensures) ∙ c.source_of-inside.ensures in
    subst (HasPort c.args.g.now.graph Outs) (sym c.twin-2.ensures) (before c.args.g.now.graph c.args.left.now.graph c.args.right.now.graph c.requires.can p q c.requires.exit fed)

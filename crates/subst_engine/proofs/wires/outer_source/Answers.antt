use Rattle.std.proofs.Common.{Some, sym, ap, subst, ◌∙◌}
use Rattle.port_types.specs.declared.side.Side.TheVariants.{Ins, Outs}
use Rattle.graph_core.specs.GraphValue.{port_of}
use Rattle.graph_core.specs.Wiring.{HasPort}
use Rattle.subst_engine.proofs.OuterPorts.{entry_output, behind, port_node, port_node_in}
use Rattle.subst_engine.proofs.wires.outer_source.Goals as goal

pub twin-requires : goal.twin-requires
twin-requires c =
    let r = port_of c.args.right.now c.args.entry in
    port_node c.args.left.now.graph r (entry_output c.args.g.now.graph c.args.left.now.graph c.args.right.now.graph c.requires.can r c.requires.entry)

pub target_of-inside-requires-clause-there : goal.target_of-inside-requires-clause-there
target_of-inside-requires-clause-there c =
    let r = port_of c.args.right.now c.args.entry in
    subst (HasPort c.args.left.now.graph Outs) (sym c.twin.ensures) (entry_output c.args.g.now.graph c.args.left.now.graph c.args.right.now.graph c.requires.can r c.requires.entry)

pub twin-requires-2 : goal.twin-requires-2
twin-requires-2 c =
    let r = port_of c.args.right.now c.args.entry in
    let t = port_of c.args.left.now c.target_of-inside.result in
    port_node_in c.args.g.now.graph t (behind c.args.g.now.graph c.args.left.now.graph c.args.right.now.graph c.requires.can r t c.requires.entry (c.target_of-inside.ensures ∙ ap (λ x. Some x) c.twin.ensures))

pub source_of-requires-clause-there : goal.source_of-requires-clause-there
source_of-requires-clause-there c =
    let r = port_of c.args.right.now c.args.entry in
    let t = port_of c.args.left.now c.target_of-inside.result in
    subst (HasPort c.args.g.now.graph Ins) (sym c.twin-2.ensures)
    (behind c.args.g.now.graph c.args.left.now.graph c.args.right.now.graph c.requires.can r t c.requires.entry (c.target_of-inside.ensures ∙ ap (λ x. Some x) c.twin.ensures))

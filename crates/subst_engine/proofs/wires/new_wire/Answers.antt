use Rattle.graph_core.specs.GraphValue.{port_of}
use Rattle.subst_engine.proofs.wires.new_wire.Goals as goal

pub source_end-requires-clause-there : goal.source_end-requires-clause-there
source_end-requires-clause-there c =
    let wire = c.requires.can.is_rule.new_typed.wires (port_of c.args.right.now c.args.target) (port_of c.args.right.now c.source_of-source.result) c.source_of-source.ensures in
    (wire.shape, (wire.from, wire.is_from, wire.leaves))

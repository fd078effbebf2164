use Rattle.std.proofs.Common.{refl, ap}
use Rattle.std.specs.Prelude.{is_some}
use Rattle.graph_core.specs.Denoting.{denoted_by}
use Rattle.graph_core.specs.GraphValue.{port_of}
use Rattle.states.proofs.starting.start_queue.Goals as goal

pub init_value-requires : goal.init_value-requires
init_value-requires c =
    let g = c.args.g.now in
    let wire = c.requires.typed.wires (port_of g c.args.target) (port_of g c.source_of.result) c.source_of.ensures in
    ap is_some (denoted_by g c.is_graph.ensures c.source_of.result (port_of g c.source_of.result).node wire.from wire.is_from refl)

use Rattle.graph_core.specs.GraphValue.{port_of}
use Rattle.graph_core.proofs.graph.Graph.target_of.Goals as goal

pub unreachable-requires : goal.unreachable-requires
unreachable-requires c =
    let fed = c.requires.typed.outputs (port_of c.args.self.now c.args.source) c.requires.there.1.0 c.requires.there.0 c.requires.there.1.1 c.requires.there.1.2 in
    c.in-None.ensures fed.0 fed.1

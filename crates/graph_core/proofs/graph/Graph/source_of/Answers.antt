use Rattle.std.proofs.Common.{◌∙◌}
use Rattle.std.proofs.lemmas.Option.{none-some}
use Rattle.graph_core.specs.GraphValue.{port_of}
use Rattle.graph_core.proofs.graph.Graph.source_of.Goals as goal

pub unreachable-requires : goal.unreachable-requires
unreachable-requires c =
    let fed = c.requires.typed.inputs (port_of c.args.self.now c.args.target) c.requires.there.1.0 c.requires.there.0 c.requires.there.1.1 c.requires.there.1.2 in
    none-some fed.0 (c.in-None.ensures ∙ fed.1)

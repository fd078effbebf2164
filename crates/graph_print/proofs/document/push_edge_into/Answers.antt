-- What feeds an input of a graph is an output of a live node.
use Rattle.std.proofs.Common.{sym, ◌∙◌, refl}
use Rattle.std.proofs.lemmas.Option.{none-some}
use Rattle.graph_core.specs.GraphValue.{port_of}
use Rattle.graph_core.specs.Denoting.{denoted_by}
use Rattle.graph_print.proofs.document.push_edge_into.Goals as goal

pub returns-in_default-node : goal.returns-in_default-node
returns-in_default-node c =
    let g = c.args.g.now in
    let source = c.in-Some.source in
    let wire = c.is_graph.ensures.graph.wires (port_of g c.args.target) (port_of g source) (sym c.in-Some.ensures) in
    absurd (none-some _ (sym c.in_default-node.ensures ∙ denoted_by g c.is_graph.ensures source (port_of g source).node wire.from wire.is_from refl))

use Rattle.graph_print.proofs.WholeDocument.{statements_of_nodes, statements_of_wires}
use Rattle.graph_print.proofs.document.document_of.Goals as goal

pub returns : goal.returns
returns c =
    let g = c.args.g.now in
    let ids = c.in_ok-ids.ids.items in
    let nodes = statements_of_nodes g ids c.in_ok-ids.ensures in
    let edges = statements_of_wires g ids c.in_ok-ids.ensures c.is_graph.ensures.graph.wires in
    cc (nodes, edges, c.in_ok-nodes.ensures, c.in_ok-edges.ensures)

use Rattle.std.proofs.Common.{◌≡◌, List, [], Ok, subst, rules}
use Rattle.dot_text.specs.declared.doc.DocNode.{DocNode}
use Rattle.dot_text.specs.declared.doc.DocEdge.{DocEdge}
use Rattle.graph_read.specs.GraphReading.{nodes_reading, edges_reading}
use Rattle.graph_read.specs.GraphSteps.{IsReadTo}
use Rattle.graph_read.proofs.GraphParts.{open_refused, graph_closed, are_nodes}
use Rattle.graph_read.proofs.NodeLists.{in_order}
use Rattle.graph_read.proofs.graph.graph_of.Goals as goal

pub returns-in_err-check_open-clause-refused : goal.returns-in_err-check_open-clause-refused
returns-in_err-check_open-clause-refused c =
    let doc = c.args.doc.now in
    let read = c.in_ok-g.ensures.ok in
    let are_read = subst (λ (ss : List DocNode). nodes_reading [] 1 ss ≡ Ok read.0) c.as_slice.ensures read.1 in
    let is = subst (λ (ss : List DocNode). IsReadTo ss read.0 c.in_ok-g.g) c.as_slice.ensures read.2 in
    let wired = subst (λ (es : List DocEdge). edges_reading c.in_ok-g.g.graph 1 es ≡ Ok c.add_edges.new.g.graph) c.as_slice-2.ensures c.in_ok-add_edges.ensures.ok in
    let are = are_nodes doc read.0 are_read c.in_ok-g.g is c.add_edges.new.g wired c.in_ok-add_edges.ensures.ids in
    let refused = open_refused doc read.0 are_read c.in_ok-g.g is c.add_edges.new.g wired c.in_ok-add_edges.ensures.ids in
    let told = refused _ (c.in_err-check_open.ensures.refused read.0 are) in
    search rules

pub returns-clause-graph : goal.returns-clause-graph
returns-clause-graph c =
    let doc = c.args.doc.now in
    let read = c.in_ok-g.ensures.ok in
    let are_read = subst (λ (ss : List DocNode). nodes_reading [] 1 ss ≡ Ok read.0) c.as_slice.ensures read.1 in
    let is = subst (λ (ss : List DocNode). IsReadTo ss read.0 c.in_ok-g.g) c.as_slice.ensures read.2 in
    let wired = subst (λ (es : List DocEdge). edges_reading c.in_ok-g.g.graph 1 es ≡ Ok c.add_edges.new.g.graph) c.as_slice-2.ensures c.in_ok-add_edges.ensures.ok in
    let are = are_nodes doc read.0 are_read c.in_ok-g.g is c.add_edges.new.g wired c.in_ok-add_edges.ensures.ids in
    graph_closed doc read.0 are_read c.in_ok-g.g is c.add_edges.new.g wired c.in_ok-add_edges.ensures.ids (c.in_ok-check_open.ensures.ok read.0 are)

pub returns-clause-order : goal.returns-clause-order
returns-clause-order c =
    let doc = c.args.doc.now in
    let read = c.in_ok-g.ensures.ok in
    let are_read = subst (λ (ss : List DocNode). nodes_reading [] 1 ss ≡ Ok read.0) c.as_slice.ensures read.1 in
    let is = subst (λ (ss : List DocNode). IsReadTo ss read.0 c.in_ok-g.g) c.as_slice.ensures read.2 in
    let wired = subst (λ (es : List DocEdge). edges_reading c.in_ok-g.g.graph 1 es ≡ Ok c.add_edges.new.g.graph) c.as_slice-2.ensures c.in_ok-add_edges.ensures.ok in
    let are = are_nodes doc read.0 are_read c.in_ok-g.g is c.add_edges.new.g wired c.in_ok-add_edges.ensures.ids in
    in_order read.0 doc.nodes c.add_edges.new.g are is.names

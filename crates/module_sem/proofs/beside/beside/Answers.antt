use Rattle.std.proofs.Common.{◌∙◌, sym, ap, subst}
use Rattle.graph_core.specs.GraphValue.{GraphValue}
use Rattle.module_sem.specs.Beside.{AreApart, HasNoWireAt, HasNodesOf, with_nodes_of, with_wires_of}
use Rattle.module_sem.proofs.Besides.{nodes_there, no_wire_there}
use Rattle.module_sem.proofs.beside.beside.Goals as goal
use Rattle.module_sem.proofs.beside.beside.Goals.{In_ok-add_nodes}

apart : (c : In_ok-add_nodes) → AreApart c.in_ok-both.both.graph c.args.g.now.graph
apart c = subst (λ (v : GraphValue). AreApart v.graph c.args.g.now.graph) (sym c.in_ok-both.ensures) c.requires.apart

pub add_nodes-requires : goal.add_nodes-requires
add_nodes-requires c = subst (λ (v : GraphValue). AreApart v.graph c.args.g.now.graph) (sym c.in_ok-both.ensures) c.requires.apart

pub add_wires-requires-clause-nodes : goal.add_wires-requires-clause-nodes
add_wires-requires-clause-nodes c =
    let m = (goal.at.add_wires-requires-clause-nodes c).In_ok-add_nodes in
    subst (λ k. HasNodesOf k c.args.g.now.graph) (sym c.in_ok-add_nodes.ensures) (nodes_there c.in_ok-both.both c.is_graph.ensures c.args.g.now.graph (apart m))

pub add_wires-requires-clause-wires : goal.add_wires-requires-clause-wires
add_wires-requires-clause-wires c =
    let m = (goal.at.add_wires-requires-clause-wires c).In_ok-add_nodes in
    subst (λ k. HasNoWireAt k c.args.g.now.graph) (sym c.in_ok-add_nodes.ensures) (no_wire_there c.in_ok-both.both c.is_graph.ensures c.args.g.now.graph (apart m))

pub returns : goal.returns
returns c =
    let g = c.args.g.now.graph in
    c.add_wires.ensures ∙ ap (λ k. with_wires_of k g) c.in_ok-add_nodes.ensures ∙ ap (λ (v : GraphValue). with_wires_of (with_nodes_of v.graph g) g) c.in_ok-both.ensures

use Rattle.subst_engine.proofs.PartMade.{on_ok, part_can_exchange, part_exchanged}
use Rattle.subst_engine.proofs.replacing.exchange_part.Goals as goal

pub exchange-requires : goal.exchange-requires
exchange-requires c =
    let g = c.args.g.now in
    let law = c.replaced_graph_as_circuit.ensures in
    let fresh = c.in_ok-fresh.fresh.nodes.items in
    rw (c.deref.ensures.value, c.deref-2.ensures.value)
    (part_can_exchange g c.args.left.now.graph c.args.right.now c.is_graph.ensures c.is_graph-2.ensures c.requires law.consumer law.nodes law.circuit c.graph_replacement_refines.ensures.typed
    c.in_ok-gone.gone.items fresh c.in_ok-wires.wires.items c.in_ok-gone.ensures c.in_ok-fresh.ensures.nodes c.in_ok-wires.ensures)

pub returns-clause-ok : goal.returns-clause-ok
returns-clause-ok c =
    let g = c.args.g.now in
    let law = c.replaced_graph_as_circuit.ensures in
    let fresh = c.in_ok-fresh.fresh.nodes.items in
    on_ok c.exchange.result
    (part_exchanged g c.args.left.now.graph c.args.right.now c.is_graph.ensures c.is_graph-2.ensures c.requires law.consumer law.nodes law.circuit c.graph_replacement_refines.ensures.typed
    c.in_ok-gone.gone.items fresh c.in_ok-wires.wires.items c.in_ok-gone.ensures c.in_ok-fresh.ensures.nodes c.in_ok-wires.ensures
    c.deref.result.now c.deref.ensures.value c.deref-2.result.now c.deref-2.ensures.value c.exchange.new.self)
    c.exchange.ensures.ok

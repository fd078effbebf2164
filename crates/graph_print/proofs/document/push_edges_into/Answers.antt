use Rattle.std.proofs.Common.{◌-◌, take, map, ap, arith}
use Rattle.std.proofs.lemmas.Grind.{common_steps}
use Rattle.std.proofs.lemmas.List.{take_all, map-append}
use Rattle.components.specs.Kind.{ins}
use Rattle.graph_print.specs.CanonicalText.{edge_entry}
use Rattle.graph_print.specs.PrintedWires.{wires_from}
use Rattle.graph_print.proofs.WiresInOrder.{wires_up_to, wire_at}
use Rattle.graph_print.proofs.document.push_edges_into.Goals as goal

pub loop-port-preserved : goal.loop-port-preserved
loop-port-preserved c =
    let next = ap (map edge_entry) (wires_up_to c.args.g.now.graph c.args.node.now.name c.loop-port.port (ins c.args.node.now.kind) (omega arith) (omega arith)) in
    let split = map-append edge_entry (wires_from c.args.g.now.graph c.args.node.now.name 1 (take (c.loop-port.port - 1) (ins c.args.node.now.kind))) (wire_at c.args.g.now.graph c.args.node.now.name c.loop-port.port) in
    grind (arith, common_steps, next, split)

pub returns-in_ok-push_edge_into : goal.returns-in_ok-push_edge_into
returns-in_ok-push_edge_into c =
    let next = ap (map edge_entry) (wires_up_to c.args.g.now.graph c.args.node.now.name c.loop-port.port (ins c.args.node.now.kind) (omega arith) (omega arith)) in
    let split = map-append edge_entry (wires_from c.args.g.now.graph c.args.node.now.name 1 (take (c.loop-port.port - 1) (ins c.args.node.now.kind))) (wire_at c.args.g.now.graph c.args.node.now.name c.loop-port.port) in
    let all = take_all c.loop-port.port (ins c.args.node.now.kind) (omega arith) in
    grind (arith, common_steps, next, split, all)

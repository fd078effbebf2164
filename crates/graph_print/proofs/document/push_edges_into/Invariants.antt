use Rattle.std.proofs.Common.{◌≡◌, ◌-◌, ◌++◌, map, take}
use Rattle.components.specs.Kind.{ins}
use Rattle.graph_print.specs.CanonicalText.{edge_entry}
use Rattle.graph_print.specs.PrintedWires.{wires_from}
use Rattle.graph_print.proofs.document.push_edges_into.Given as goal

abbrev pub invariant-loop-port : goal.invariant-loop-port
invariant-loop-port l = l.edges.items ≡ l.fn.edges.items ++ map edge_entry (wires_from l.g.graph l.node.name 1 (take (l.port - 1) (ins l.node.kind)))

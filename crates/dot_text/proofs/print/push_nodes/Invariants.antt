use Rattle.std.proofs.Common.{◌≡◌, ◌++◌, drop, string_bytes}
use Rattle.dot_text.specs.Printing.{node_lines}
use Rattle.dot_text.proofs.print.push_nodes.Given as goal

abbrev pub invariant-loop-node : goal.invariant-loop-node
invariant-loop-node l = string_bytes l.out ++ node_lines (drop l.node-index l.nodes) ≡ string_bytes l.fn.out ++ node_lines l.nodes

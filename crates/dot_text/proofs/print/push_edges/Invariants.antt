use Rattle.std.proofs.Common.{◌≡◌, ◌++◌, drop, string_bytes}
use Rattle.dot_text.specs.Printing.{edge_lines}
use Rattle.dot_text.proofs.print.push_edges.Given as goal

abbrev pub invariant-loop-edge : goal.invariant-loop-edge
invariant-loop-edge l = string_bytes l.out ++ edge_lines (drop l.edge-index l.edges) ≡ string_bytes l.fn.out ++ edge_lines l.edges

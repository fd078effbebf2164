use Rattle.std.proofs.Common.{◌≡◌, ◌+◌, drop}
use Rattle.graph_read.specs.GraphReading.{edges_reading}
use Rattle.graph_read.proofs.edges.add_edges.Given as goal

abbrev pub invariant-loop-index : goal.invariant-loop-index
invariant-loop-index l = record {
  read : edges_reading l.fn.g.graph 1 l.edges ≡ edges_reading l.g.graph (l.index + 1) (drop l.index l.edges);
  ids : l.g.ids ≡ l.fn.g.ids;
  slots : l.g.slots ≡ l.fn.g.slots;
}

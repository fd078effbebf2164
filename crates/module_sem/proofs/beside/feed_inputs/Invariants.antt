use Rattle.std.proofs.Common.{◌≡◌}
use Rattle.graph_core.specs.GraphValue.{name_by}
use Rattle.module_sem.proofs.Feeding.{FedTo}
use Rattle.module_sem.proofs.beside.feed_inputs.Given as goal

abbrev pub invariant-loop-port : goal.invariant-loop-port
invariant-loop-port l = record {
  fed : FedTo l.initial.h.graph l.g.graph (name_by l.g.ids l.id) l.port l.h.graph;
  ids : l.h.ids ≡ l.initial.h.ids;
}

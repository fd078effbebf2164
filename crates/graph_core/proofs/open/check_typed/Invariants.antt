use Rattle.std.proofs.Common.{◌<◌}
use Rattle.graph_core.specs.declared.place.NodeId.{NodeId}
use Rattle.graph_core.specs.Open.{IsClosed}
use Rattle.graph_core.proofs.open.check_typed.Given as goal

abbrev pub invariant-loop-index : goal.invariant-loop-index
invariant-loop-index l = (id : NodeId) → id.index < l.index → IsClosed l.g id

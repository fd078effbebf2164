use Rattle.std.proofs.Common.{ℕ, ◌<◌, ◌≤◌}
use Rattle.graph_core.specs.GraphValue.{port_of}
use Rattle.graph_core.specs.Open.{port_at}
use Rattle.subst_engine.specs.Matching.{AreFedAlike}
use Rattle.subst_engine.proofs.matching.inputs_match.Given as goal

abbrev pub invariant-loop-port : goal.invariant-loop-port
invariant-loop-port l = (k : ℕ) → 1 ≤ k → k < l.port →
    AreFedAlike l.g.graph l.left.graph (port_of l.g (port_at l.twin k)) (port_of l.left (port_at l.node k))

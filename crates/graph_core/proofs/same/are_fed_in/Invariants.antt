use Rattle.std.proofs.Common.{ℕ, ◌<◌, ◌≤◌}
use Rattle.graph_core.specs.GraphValue.{port_of}
use Rattle.graph_core.specs.Open.{port_at}
use Rattle.graph_core.specs.Within.{IsFedIn}
use Rattle.graph_core.proofs.same.are_fed_in.Given as goal

abbrev pub invariant-loop-port : goal.invariant-loop-port
invariant-loop-port l = (k : ℕ) → 1 ≤ k → k < l.port → IsFedIn l.a.graph (port_of l.a (port_at l.node k)) l.b.graph (port_of l.b (port_at l.twin k))

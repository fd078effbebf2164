use Rattle.std.proofs.Common.{ℕ, ◌<◌, ◌≤◌}
use Rattle.graph_core.specs.GraphValue.{port_of}
use Rattle.graph_core.specs.Open.{port_at}
use Rattle.graph_core.specs.Wiring.{IsWired}
use Rattle.graph_core.proofs.open.open_port.Given as goal

abbrev pub invariant-loop-port : goal.invariant-loop-port
invariant-loop-port l = (k : ℕ) → 1 ≤ k → k < l.port → IsWired l.g.graph l.side (port_of l.g (port_at l.node k))

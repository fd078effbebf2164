use Rattle.std.proofs.Common.{◌≡◌, map}
use Rattle.graph_read.proofs.node.shapes_of.Given as goal

abbrev pub invariant-loop-port : goal.invariant-loop-port
invariant-loop-port l = l.shapes.items ≡ map (λ port. port.shape) l.yielded

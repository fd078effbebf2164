use Rattle.std.proofs.Common.{◌≡◌, ◌+◌, drop}
use Rattle.fun_expr.specs.Each.{total}
use Rattle.loop_body.specs.BodyKind.{weight}
use Rattle.loop_body.specs.Judging.{kinds_of}
use Rattle.loop_body.proofs.kinds.are_light.Given as goal

-- what is left is the greatest weight without the nodes so far
abbrev pub invariant-loop-node : goal.invariant-loop-node
invariant-loop-node l = l.left + total weight (kinds_of l.nodes) ≡ 16384 + total weight (drop l.node-index (kinds_of l.nodes))

use Rattle.std.proofs.Common.{drop}
use Rattle.std.specs.Prelude.{All, ◌↔◌}
use Rattle.fun_expr.specs.Each.{Each}
use Rattle.loop_body.proofs.Naming.{Named}
use Rattle.loop_body.proofs.named.are_named.Given as goal

abbrev pub invariant-loop-node : goal.invariant-loop-node
invariant-loop-node l = All Named l.nodes ↔ Each Named (drop l.node-index l.nodes)

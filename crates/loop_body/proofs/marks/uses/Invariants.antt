use Rattle.std.proofs.Common.{◌≡◌, ◌++◌, drop}
use Rattle.loop_body.specs.Body.{flat}
use Rattle.loop_body.proofs.marks.uses.Given as goal

abbrev pub invariant-loop-of_node : goal.invariant-loop-of_node
invariant-loop-of_node l = l.ports.items ++ flat (drop l.of_node-index l.inputs) ≡ flat l.inputs

use Rattle.std.proofs.Common.{map, drop}
use Rattle.components.specs.declared.node.Node.{Node}
use Rattle.loop_body.specs.Body.{flat}
use Rattle.loop_body.specs.Tables.{Differ}
use Rattle.loop_body.proofs.Steps.{ArePartly}
use Rattle.loop_body.proofs.function.put_nodes.Given as goal

-- what the rest of the nodes makes of the table and the binds so far is what all make
abbrev pub invariant-loop-i : goal.invariant-loop-i
invariant-loop-i l =
    ArePartly l.fields (map (λ (node : Node). node.kind) l.nodes) l.inputs l.initial.table l.initial.binds.items l.i l.table l.binds.items × Differ (flat (drop l.i l.inputs))

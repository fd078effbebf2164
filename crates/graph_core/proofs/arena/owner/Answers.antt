use Rattle.std.proofs.Common.{◌≡◌, Some, rules}
use Rattle.graph_core.specs.Inside.{node_at}
use Rattle.graph_core.proofs.arena.owner.Goals as goal
use Rattle.graph_core.proofs.arena.owner.Goals.{In_ok-node}

live : (c : In_ok-node) → node_at c.args.cells.now c.args.port.node ≡ Some c.in_ok-node.field-0.now.node
live c = search rules

pub has_port-requires : goal.has_port-requires
has_port-requires c = c.requires c.args.port.node c.in_ok-node.field-0.now.node (live c)

pub returns-then-has_port : goal.returns-then-has_port
returns-then-has_port c =
    let is = live (goal.at.returns-then-has_port c).In_ok-node in
    record { live = is; some = c.has_port.ensures.0 c.if-has_port.true; right = c.requires c.args.port.node c.in_ok-node.field-0.now.node is }

use Rattle.std.proofs.Common.{◌≡◌, length, map, take}
use Rattle.std.specs.List.{All}
use Rattle.graph_core.specs.Made.{IsMade, node_of}
use Rattle.graph_core.proofs.exchange.make_all.Given as goal

abbrev pub invariant-loop-node : goal.invariant-loop-node
invariant-loop-node l = All IsMade l.all.items × (map node_of l.all.items ≡ take (length l.yielded) l.fn.nodes.items)

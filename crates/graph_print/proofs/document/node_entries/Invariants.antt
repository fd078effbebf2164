use Rattle.std.proofs.Common.{◌≡◌, take}
use Rattle.std.specs.List.{flat_map}
use Rattle.graph_print.specs.DocumentParts.{node_entries_at}
use Rattle.graph_print.proofs.document.node_entries.Given as goal

abbrev pub invariant-loop-id : goal.invariant-loop-id
invariant-loop-id l = l.nodes.items ≡ flat_map (node_entries_at l.g) (take l.id-index l.ids)

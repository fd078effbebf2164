use Rattle.std.proofs.Common.{◌≡◌, take}
use Rattle.std.specs.List.{flat_map}
use Rattle.graph_print.specs.DocumentParts.{edge_entries_at}
use Rattle.graph_print.proofs.document.edge_entries.Given as goal

abbrev pub invariant-loop-id : goal.invariant-loop-id
invariant-loop-id l = l.edges.items ≡ flat_map (edge_entries_at l.g) (take l.id-index l.ids)

-- The canonical document of a graph is read as that graph.
use Rattle.std.proofs.Common.{◌≡◌, List, [], map, Ok, refl, ap, ◌∙◌}
use Rattle.std.specs.FinMap as map_of
use Rattle.components.specs.Name.{Name, Port}
use Rattle.components.specs.Node.{Body}
use Rattle.components.specs.NamedGraph.{NamedGraph}
use Rattle.graph_print.specs.CanonicalText.{edge_entry, canonical_document}
use Rattle.graph_read.specs.GraphReading.{graph_of_nodes, edges_reading, unless, closed, wired, graph_reading}
use Rattle.read_back.specs.CanonicalReading.{CanBeReadBack, CanonicalReadsBack}
use Rattle.components.specs.Orders.{name_total, name_same, port_total, port_same}
use Rattle.components.specs.Lookups.{from_entries-entries}
use Rattle.read_back.proofs.BodiesBack.{ReadingLaws, body_read}
use Rattle.read_back.proofs.NodesBack.{SaysBodies, nodes_back}
use Rattle.read_back.proofs.PortNames.{names_ports}
use Rattle.read_back.proofs.EdgesBack.{edges_back}
use Rattle.read_back.proofs.PortsClosed.{none_open}

module _ (laws : ReadingLaws) (g : NamedGraph) (within : CanBeReadBack g) where
  abbrev nodes : List (Name × Body)
  nodes = map_of.entries g.nodes

  abbrev wires : List (Port × Port)
  wires = map_of.entries g.feeders

  says : SaysBodies g
  says name body there =
      body_read laws body (within.typed.kinds name body there) (within.values name body there) (λ key value kept. within.kept name body key value there kept)

  edges_read : edges_reading (graph_of_nodes nodes) 1 (map edge_entry wires) ≡ Ok g
  edges_read =
      ap (λ ns. edges_reading (record { nodes = ns; feeders = map_of.empty }) 1 (map edge_entry wires)) (from_entries-entries name_total name_same g.nodes)
      ∙ edges_back g within.typed (names_ports laws.shapes g within.typed) [] wires 1 refl
      ∙ ap (λ fs. Ok (record { nodes = g.nodes; feeders = fs })) (from_entries-entries port_total port_same g.feeders)

  is_read : graph_reading (canonical_document g) ≡ Ok g
  is_read =
      ap (wired (map edge_entry wires)) (nodes_back g within.names says within.few) ∙ ap (closed nodes) edges_read ∙ ap (unless g) (none_open g within.typed)

pub canonical_reads_back : ReadingLaws → CanonicalReadsBack
canonical_reads_back laws g within = is_read laws g within

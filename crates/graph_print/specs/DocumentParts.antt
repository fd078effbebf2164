-- What the document of a graph has for each node of the graph.
use Rattle.std.specs.Prelude.{List, [], ◌∷◌, map, Option, Some, None}
use Rattle.std.specs.Option.{option_map}
use Rattle.std.specs.FinMap as finite
use Rattle.dot_text.specs.declared.doc.DocNode.{DocNode}
use Rattle.dot_text.specs.declared.doc.DocEdge.{DocEdge}
use Rattle.components.specs.Name.{Name}
use Rattle.components.specs.Node.{Body}
use Rattle.components.specs.NamedGraph.{NamedGraph}
use Rattle.graph_core.specs.declared.place.NodeId.{NodeId}
use Rattle.graph_core.specs.GraphValue.{GraphValue}
use Rattle.graph_print.specs.CanonicalText.{node_entry, edge_entry}
use Rattle.graph_print.specs.PrintedWires.{wires_into}

-- the node of this name
abbrev pub node_under : NamedGraph → Option Name → Option (Name × Body)
node_under g None = None
node_under g (Some name) = option_map (λ body. (name, body)) (finite.get g.nodes name)

-- the node that an id denotes
abbrev pub node_of : GraphValue → NodeId → Option (Name × Body)
node_of g id = node_under g.graph (finite.get g.ids id)

abbrev pub node_entries_of : Option (Name × Body) → List DocNode
node_entries_of None = []
node_entries_of (Some node) = node_entry node ∷ []

-- the statement of a node
abbrev pub node_entries_at : GraphValue → NodeId → List DocNode
node_entries_at g id = node_entries_of (node_of g id)

abbrev pub edge_entries_of : NamedGraph → Option (Name × Body) → List DocEdge
edge_entries_of g None = []
edge_entries_of g (Some node) = map edge_entry (wires_into g node)

-- the statements of the wires into a node
abbrev pub edge_entries_at : GraphValue → NodeId → List DocEdge
edge_entries_at g id = edge_entries_of g.graph (node_of g id)

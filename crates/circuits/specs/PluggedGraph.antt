-- Two graphs joined at Entries and Exits, by names.
use Rattle.std.specs.Prelude.{List, [], ◌∷◌, map, if◌then◌else◌, bytes_eq}
use Rattle.std.specs.FinMap as finite
use Rattle.components.specs.declared.kind.Kind.{Kind}
use Rattle.components.specs.declared.kind.Kind.TheVariants.{Exit, Buffer}
use Rattle.components.specs.Name.{Name, Port}
use Rattle.components.specs.Node.{Body}
use Rattle.components.specs.NamedGraph.{NamedGraph}
use Rattle.circuits.specs.Plug.{PlugLink}
use Rattle.circuits.specs.ReplacedGraph.{together}

-- two graphs side by side
abbrev pub beside_graph : NamedGraph → NamedGraph → NamedGraph
beside_graph c g =
    record {
      nodes = together c.nodes g.nodes;
      feeders = together c.feeders g.feeders;
    }

-- for an Exit, the Buffer of its shape
abbrev pub buffer_kind : Kind → Kind
buffer_kind (Exit shape) = Buffer shape
buffer_kind kind = kind

-- the same for a node, which keeps its attributes
abbrev pub buffer_body : Body → Body
buffer_body body = record { kind = buffer_kind body.kind; kept = body.kept }

-- a node once the link is made
abbrev pub linked_node : PlugLink → Name → Body → Body
linked_node l name body = if bytes_eq name l.exit then buffer_body body else body

-- what feeds an input once the link is made: where the Entry fed it, the Exit's name
abbrev pub linked_source : PlugLink → Port → Port
linked_source l source = if bytes_eq source.node l.entry then record { node = l.exit; port = source.port } else source

-- the Exit becomes a Buffer of its name, shape and kept attributes, wired to what the Entry fed, and the Entry goes
abbrev pub link_graph : PlugLink → NamedGraph → NamedGraph
link_graph l g =
    record {
      nodes = finite.remove (finite.from_entries (map (λ node. (node.0, linked_node l node.0 node.1)) (finite.entries g.nodes))) l.entry;
      feeders = finite.from_entries (map (λ wire. (wire.0, linked_source l wire.1)) (finite.entries g.feeders));
    }

-- one link after another
abbrev pub link_graphs : List PlugLink → NamedGraph → NamedGraph
link_graphs [] g = g
link_graphs (l ∷ ls) g = link_graphs ls (link_graph l g)

-- g in the surrounding graph c
abbrev pub plugged_graph : NamedGraph → List PlugLink → NamedGraph → NamedGraph
plugged_graph c ls g = link_graphs ls (beside_graph c g)

-- Graphs that are made for the sides of rules.
use Rattle.std.specs.Prelude.{◌≢◌, ◌<◌, List, [], ◌∷◌, length, map}
use Rattle.std.specs.List.{AllByRecursion}
use Rattle.components.specs.declared.kind.Kind.{Kind}
use Rattle.components.specs.declared.node.Node.{Node}
use Rattle.components.specs.Name.{Name}
use Rattle.components.specs.Node.{NodeOk}
use Rattle.components.specs.NamedGraph.{NamedGraph, IsWire, no_graph}
use Rattle.graph_core.specs.declared.exchange.End.{End}
use Rattle.graph_core.specs.declared.exchange.End.TheVariants.{Old, Fresh}
use Rattle.graph_core.specs.Exchange.{with_nodes, with_wires, end_port, end_ports}
use Rattle.graph_core.specs.GraphValue.{no_nodes}

-- a node without kept attributes
abbrev pub bare_node : Name → Kind → Node
bare_node name kind = record { name = name; kind = kind; kept = [] }

-- the graph of these nodes and wires; an end of a wire tells its node by the place in the list
abbrev pub rule_graph : List Node → List (End × End) → NamedGraph
rule_graph nodes wires = with_wires (with_nodes no_graph nodes) (map (end_ports no_nodes nodes) wires)

-- the end is at a node of the list
abbrev pub IsListed : List Node → End → Type 0
IsListed nodes (Old p) = ⊥
IsListed nodes (Fresh index port) = index < length nodes

-- no two of the list are equal
abbrev pub AllDiffer : {X : Type 0} → List X → Type 0
AllDiffer [] = Unit {0}
AllDiffer (x ∷ xs) = AllByRecursion (λ y. x ≢ y) xs × AllDiffer xs

-- each node may stand in a graph, with a name of its own, and each wire joins an output and an input of one shape that stand on no other
pub record CanMake (nodes : List Node) (wires : List (End × End)) : Type 0 where
  pub are_ok : AllByRecursion NodeOk nodes
  pub names : AllDiffer (map (λ node. node.name) nodes)
  pub ends : AllByRecursion (λ wire. IsListed nodes wire.0 × IsListed nodes wire.1) wires
  pub fit : AllByRecursion (λ wire. IsWire (with_nodes no_graph nodes) (end_port no_nodes nodes wire.0) (end_port no_nodes nodes wire.1)) wires
  pub outputs : AllDiffer (map (λ wire. end_port no_nodes nodes wire.0) wires)
  pub inputs : AllDiffer (map (λ wire. end_port no_nodes nodes wire.1) wires)

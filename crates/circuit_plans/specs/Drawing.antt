-- Graphs by names that are drawn: a list of nodes of a type, and a list of wires between them.
use Rattle.std.specs.Prelude.{ℕ, List, map, fold}
use Rattle.components.specs.declared.kind.Kind.{Kind}
use Rattle.components.specs.Name.{Name, Port}
use Rattle.components.specs.NamedGraph.{NamedGraph, no_graph, with_node, with_wire}
use Rattle.circuits.specs.BufferRule.{bare}
use Rattle.circuit_plans.specs.Plans.{Out}

-- a wire from an output to an input
pub record DrawnWire (N : Type 0) : Type 0 where
  pub source : Out N
  pub target : Out N

abbrev pub wire : {N : Type 0} → N → ℕ → N → ℕ → DrawnWire N
wire from output to input = record { source = record { at = from; port = output }; target = record { at = to; port = input } }

-- the kinds of the nodes, the nodes in an order, and the wires
pub record Drawing (N : Type 0) : Type 0 where
  pub kind : N → Kind
  pub nodes : List N
  pub wires : List (DrawnWire N)

-- a port by the name of its node
abbrev pub port_named : {N : Type 0} → (N → Name) → Out N → Port
port_named name p = record { node = name p.at; port = p.port }

-- with nodes that keep no attributes, one after another
abbrev pub with_nodes : NamedGraph → List (Name × Kind) → NamedGraph
with_nodes g nodes = fold (λ h node. with_node h node.0 (bare node.1)) g nodes

-- with wires, each from an output to an input, one after another
abbrev pub with_wires : NamedGraph → List (Port × Port) → NamedGraph
with_wires g wires = fold (λ h wire. with_wire h wire.0 wire.1) g wires

-- the graph of these nodes and wires, where each node has its name
abbrev pub drawn : {N : Type 0} → Drawing N → (N → Name) → NamedGraph
drawn d name =
    with_wires
    (with_nodes no_graph (map (λ n. (name n, d.kind n)) d.nodes))
    (map (λ wire. (port_named name wire.source, port_named name wire.target)) d.wires)

-- Two graphs by names are one where each stands within the other.
use Rattle.std.proofs.Common.{◌≡◌, ◌↔◌, ℕ, ◌≤◌, length, Some, is_some, sym, ap, subst, ◌∙◌}
use Rattle.std.specs.FinMap as map
use Rattle.std.proofs.lemmas.Option.{same_Some}
use Rattle.components.specs.declared.node.Node.{Node}
use Rattle.components.specs.Name.{Name, Port}
use Rattle.components.specs.Kind.{ins}
use Rattle.components.specs.Node.{Body, body_of}
use Rattle.components.specs.NamedGraph.{NamedGraph}
use Rattle.components.specs.Lookups.{same_by}
use Rattle.components.specs.Numbered.{within, there}
use Rattle.components.specs.Orders.{name_total, name_same, port_total, port_same}
use Rattle.graph_core.specs.declared.place.NodeId.{NodeId}
use Rattle.graph_core.specs.Denoting.{port_denoted}
use Rattle.graph_core.specs.GraphValue.{GraphValue, Denotes, IsGraph, IsNodeAt, port_of}
use Rattle.graph_core.specs.Open.{port_at}
use Rattle.graph_core.specs.Within.{IdStandsIn, IsFedIn, IsWithin, StandsIn}

pub same_where_within : (a b : NamedGraph) → IsWithin a b → IsWithin b a → a ≡ b
same_where_within a b there back =
    let nodes = same_by name_total name_same a.nodes b.nodes there.nodes back.nodes in
    let feeders = same_by port_total port_same a.feeders b.feeders there.wires back.wires in
    λ i. record { nodes = nodes i; feeders = feeders i }

pub within_where_same : (a b : NamedGraph) → a ≡ b → IsWithin a b
within_where_same a b same = subst (IsWithin a) same (record { nodes = λ name body found. found; wires = λ p source found. found })

-- each live node of the graph stands in the other
abbrev pub AllStandIn : GraphValue → NamedGraph → Type 0
AllStandIn g h = (id : NodeId) → IdStandsIn g id h

module _ (g : GraphValue) (ok : IsGraph g) (h : NamedGraph) where
  stands : AllStandIn g h → (name : Name) (body : Body) → map.get g.graph.nodes name ≡ Some body → StandsIn g.graph name body h
  stands each name body found = let (id, denotes) = ok.live name body found in each id name body denotes found

  wire_within : AllStandIn g h → (p source : Port) → map.get g.graph.feeders p ≡ Some source → map.get h.feeders p ≡ Some source
  wire_within each p source found =
      let wire = ok.graph.wires p source found in
      (stands each p.node wire.to wire.is_to).wires p.port (ap is_some wire.enters) source found

  pub within_where_all : AllStandIn g h → IsWithin g.graph h
  within_where_all each = record { nodes = λ name body found. (stands each name body found).node; wires = wire_within each }

pub all_where_within : (g : GraphValue) (h : NamedGraph) → IsWithin g.graph h → AllStandIn g h
all_where_within g h within id name body denotes found =
    record { node = within.nodes name body found; wires = λ port there. within.wires (record { node = name; port = port }) }

-- Ports by the names of their nodes

fed_renamed : (a b : NamedGraph) (p q p' q' : Port) → p ≡ p' → q ≡ q' → IsFedIn a p b q → IsFedIn a p' b q'
fed_renamed a b p q p' q' is_p is_q fed source found = ap (map.get b.feeders) (sym is_q) ∙ fed source (ap (map.get a.feeders) is_p ∙ found)

-- what feeds each of the inputs of a node feeds the same input of a node with its name
abbrev pub AllFedIn : GraphValue → NodeId → GraphValue → NodeId → ℕ → Type 0
AllFedIn g id h twin count = (k : ℕ) → 1 ≤ k → k ≤ count → IsFedIn g.graph (port_of g (port_at id k)) h.graph (port_of h (port_at twin k))

module _ (g h : GraphValue) (id twin : NodeId) (node : Node) (count : ℕ) (at : IsNodeAt g id node) (named : Denotes h twin node.name) (counted : count ≡ length (ins node.kind)) where
  abbrev by_name : ℕ → Port
  by_name k = record { node = node.name; port = k }

  stands_alike : StandsIn g.graph node.name (body_of node) h.graph → IdStandsIn g id h.graph
  stands_alike stands name body denotes found =
      let is_name : node.name ≡ name = same_Some _ _ (sym at.denotes ∙ denotes) in
      let is_body : body_of node ≡ body = same_Some _ _ (sym at.body ∙ ap (map.get g.graph.nodes) is_name ∙ found) in
      subst (λ n. StandsIn g.graph n body h.graph) is_name (subst (λ b. StandsIn g.graph node.name b h.graph) is_body stands)

  pub stands_where_fed : map.get h.graph.nodes node.name ≡ Some (body_of node) → AllFedIn g id h twin count ↔ IdStandsIn g id h.graph
  stands_where_fed same = (
    λ fed.
        stands_alike (record {
          node = same;
          wires = λ k is_there.
              let number = within (ins node.kind) k is_there in
              fed_renamed g.graph h.graph _ _ (by_name k) (by_name k) (port_denoted g (port_at id k) node.name at.denotes) (port_denoted h (port_at twin k) node.name named) (fed k number.some (subst (λ n. k ≤ n) (sym counted) number.few));
        }),
    λ each k some few.
        fed_renamed g.graph h.graph (by_name k) (by_name k) _ _ (sym (port_denoted g (port_at id k) node.name at.denotes)) (sym (port_denoted h (port_at twin k) node.name named))
        ((each node.name (body_of node) at.denotes at.body).wires k (there (ins node.kind) k (record { some = some; few = subst (λ n. k ≤ n) counted few }))),
  )

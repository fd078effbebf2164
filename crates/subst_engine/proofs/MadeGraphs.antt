-- Nodes and wires that can make a graph can come into the graph without nodes.
use Rattle.std.proofs.Common.{◌≡◌, ◌≢◌, List, [], ◌∷◌, map, All, AllPairs, None, refl, sym, ap, ◌∙◌, arith}
use Rattle.std.specs.List.{AllByRecursion}
use Rattle.std.specs.FinMap as finite
use Rattle.std.proofs.lemmas.Option.{none-some}
use Rattle.std.proofs.lemmas.List.Elements.{All-nil, All-cons}
use Rattle.std.proofs.lemmas.List.Kept.{AllPairs-cons}
use Rattle.components.specs.declared.node.Node.{Node}
use Rattle.components.specs.Name.{Port, name_cmp, port_cmp}
use Rattle.components.specs.Node.{NodeOk, body_of}
use Rattle.components.specs.NamedGraph.{NamedGraph, IsWire, CanWire, no_graph, with_node}
use Rattle.graph_core.specs.declared.exchange.End.{End}
use Rattle.graph_core.specs.declared.exchange.End.TheVariants.{Old, Fresh}
use Rattle.graph_core.specs.Exchange.{IsAtNode, CanExchange, with_nodes, end_port}
use Rattle.graph_core.specs.GraphValue.{no_nodes}
use Rattle.subst_engine.specs.Making.{IsListed, AllDiffer, CanMake}

all_of : {X : Type 0} (P : X → Type 0) (xs : List X) → AllByRecursion P xs → All P xs
all_of P [] h = All-nil P
all_of P (x ∷ xs) h = All-cons P x xs h.0 (all_of P xs h.1)

all_mapped : {X Y : Type 0} (f : X → Y) (P : Y → Type 0) (xs : List X) → AllByRecursion P (map f xs) → AllByRecursion (λ x. P (f x)) xs
all_mapped f P [] h = tt
all_mapped f P (x ∷ xs) h = (h.0, all_mapped f P xs h.1)

pairs_of : {X Y : Type 0} (f : X → Y) (xs : List X) → AllDiffer (map f xs) → AllPairs (λ a b. f a ≢ f b) xs
pairs_of f [] h = λ i j d before within. absurd (omega arith)
pairs_of f (x ∷ xs) h = AllPairs-cons (λ a b. f a ≢ f b) x xs (all_of (λ b. f x ≢ f b) xs (all_mapped f (λ y. f x ≢ y) xs h.0)) (pairs_of f xs h.1)

listed_at : (nodes : List Node) (end : End) → IsListed nodes end → IsAtNode no_nodes [] nodes end
listed_at nodes (Old p) h = absurd h
listed_at nodes (Fresh index port) h = h

no_wires : (nodes : List Node) (g : NamedGraph) → (with_nodes g nodes).feeders ≡ g.feeders
no_wires [] g = refl
no_wires (node ∷ nodes) g = no_wires nodes (with_node g node.name (body_of node))

module _ (nodes : List Node) where
  abbrev AreAtNodes : End × End → Type 0
  AreAtNodes wire = IsAtNode no_nodes [] nodes wire.0 × IsAtNode no_nodes [] nodes wire.1

  ends_at : (wires : List (End × End)) → AllByRecursion (λ wire. IsListed nodes wire.0 × IsListed nodes wire.1) wires → AllByRecursion AreAtNodes wires
  ends_at [] h = tt
  ends_at (wire ∷ wires) h = ((listed_at nodes wire.0 h.0.0, listed_at nodes wire.1 h.0.1), ends_at wires h.1)

  free : (p : Port) → finite.get (with_nodes no_graph nodes).feeders p ≡ None
  free p = ap (λ m. finite.get m p) (no_wires nodes no_graph) ∙ finite.get-empty port_cmp p

  can_wire : (source target : Port) → IsWire (with_nodes no_graph nodes) source target → CanWire (with_nodes no_graph nodes) source target
  can_wire source target wire = record { wire = wire; target_free = free target; source_free = λ p e. none-some source (sym (free p) ∙ e) }

  abbrev FitsAt : (Port → Port → Type 0) → End × End → Type 0
  FitsAt P wire = P (end_port no_nodes nodes wire.0) (end_port no_nodes nodes wire.1)

  can_wires : (wires : List (End × End)) → AllByRecursion (FitsAt (IsWire (with_nodes no_graph nodes))) wires → AllByRecursion (FitsAt (CanWire (with_nodes no_graph nodes))) wires
  can_wires [] h = tt
  can_wires (wire ∷ wires) h = (can_wire (end_port no_nodes nodes wire.0) (end_port no_nodes nodes wire.1) h.0, can_wires wires h.1)

  pub can_exchange : (wires : List (End × End)) → CanMake nodes wires → CanExchange no_nodes [] nodes wires
  can_exchange wires can =
      record {
        live = All-nil _;
        distinct = λ i j d before within. absurd (omega arith);
        nodes = all_of NodeOk nodes can.are_ok;
        names = pairs_of (λ (node : Node). node.name) nodes can.names;
        free = λ k d within. finite.get-empty name_cmp _;
        ends = all_of AreAtNodes wires (ends_at wires can.ends);
        fit = all_of (FitsAt (CanWire (with_nodes no_graph nodes))) wires (can_wires wires can.fit);
        outputs = pairs_of (λ (wire : End × End). end_port no_nodes nodes wire.0) wires can.outputs;
        inputs = pairs_of (λ (wire : End × End). end_port no_nodes nodes wire.1) wires can.inputs;
      }

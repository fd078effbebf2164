-- Graphs side by side: their nodes, and then their wires, one id after another.
use Rattle.std.proofs.Common.{◌≡◌, inl, inr, ℕ, ◌+◌, Option, Some, None, refl, sym, ap, ◌∙◌}
use Rattle.std.proofs.lemmas.Option.{none-some}
use Rattle.std.specs.Option.{option_or}
use Rattle.std.specs.FinMap as finite
use Rattle.components.specs.Lookups.{get_inserted, get_not_inserted}
use Rattle.components.specs.Name.{Name, Port}
use Rattle.components.specs.Node.{Body}
use Rattle.components.specs.NamedGraph.{NamedGraph, with_node}
use Rattle.components.specs.Orders.{name_total, name_same, port_total, port_same}
use Rattle.circuits.specs.GraphLookups.{get_beside_node, get_beside_feeder}
use Rattle.circuits.specs.PluggedGraph.{beside_graph}
use Rattle.graph_core.specs.Place.{id_of}
use Rattle.graph_core.specs.GraphValue.{GraphValue, Denotes, IsGraph}
use Rattle.module_sem.specs.Beside.{AreApart, CanFeed, HasNoWireAt, HasNodesOf, IsFedAs, with_nodes_of, with_wires_of}
use Rattle.module_sem.proofs.Filling.{SoFar, so_far_none, so_far_dead, so_far_live, untouched, done_or_not, filled}

module _ (h : NamedGraph) (g : GraphValue) where
  -- with the nodes of the ids below k
  pub record HasNodes (k : ℕ) (now : NamedGraph) : Type 0 where
    pub nodes : SoFar g (λ (n : Name). n) (finite.get g.graph.nodes) (finite.get h.nodes) k (finite.get now.nodes)
    pub feeders : now.feeders ≡ h.feeders

  pub has_none : HasNodes 0 h
  has_none = record { nodes = so_far_none g (λ n. n) (finite.get g.graph.nodes) (finite.get h.nodes) (finite.get h.nodes) (λ n. refl); feeders = refl }

  has_dead : (k : ℕ) (now next : NamedGraph) → HasNodes k now → next ≡ now → finite.get g.ids (id_of k) ≡ None → HasNodes (k + 1) next
  has_dead k now next has same dead =
      record {
        nodes = so_far_dead g (λ n. n) (finite.get g.graph.nodes) (finite.get h.nodes) k (finite.get now.nodes) has.nodes (finite.get next.nodes) (λ n. ap (λ (z : NamedGraph). finite.get z.nodes n) same) dead;
        feeders = ap (λ (z : NamedGraph). z.feeders) same ∙ has.feeders;
      }

  module _ (is : IsGraph g) where
    -- the name of the next node is free
    pub is_free : AreApart h g.graph → (k : ℕ) (now : NamedGraph) → HasNodes k now → (name : Name) → Denotes g (id_of k) name → finite.get now.nodes name ≡ None
    is_free apart k now has name live =
        untouched g (λ n. n) (finite.get g.graph.nodes) (finite.get h.nodes) k (finite.get now.nodes) has.nodes is name live name refl
        ∙ (let (body, found) = is.denoted (id_of k) name live in apart name body found)

    has_live : (k : ℕ) (now next : NamedGraph) → HasNodes k now → (name : Name) (body : Body) → Denotes g (id_of k) name → finite.get g.graph.nodes name ≡ Some body → next ≡ with_node now name body → HasNodes (k + 1) next
    has_live k now next has name body live found same =
        record {
          nodes = so_far_live g (λ n. n) (finite.get g.graph.nodes) (finite.get h.nodes) k (finite.get now.nodes) has.nodes is name live (finite.get next.nodes)
              (λ n here. ap (λ (z : NamedGraph). finite.get z.nodes n) same ∙ get_inserted name_total name_same now.nodes name body n here ∙ sym found ∙ ap (finite.get g.graph.nodes) (sym here))
              (λ n away. ap (λ (z : NamedGraph). finite.get z.nodes n) same ∙ get_not_inserted name_total name_same now.nodes name body n away);
          feeders = ap (λ (z : NamedGraph). z.feeders) same ∙ has.feeders;
        }

    pub has_more : (k : ℕ) (now next : NamedGraph) → HasNodes k now
        → ((name : Name) (body : Body) → Denotes g (id_of k) name → finite.get g.graph.nodes name ≡ Some body → next ≡ with_node now name body)
        → (finite.get g.ids (id_of k) ≡ None → next ≡ now) → HasNodes (k + 1) next
    has_more k now next has live dead = at (finite.get g.ids (id_of k)) refl
      where
        at : (o : Option Name) → finite.get g.ids (id_of k) ≡ o → HasNodes (k + 1) next
        at None e = has_dead k now next has (dead e) e
        at (Some name) e = let (body, found) = is.denoted (id_of k) name e in has_live k now next has name body e found (live name body e found)

    pub has_all : AreApart h g.graph → (now : NamedGraph) → HasNodes g.slots now → now ≡ with_nodes_of h g.graph
    has_all apart now has =
        let nodes : now.nodes ≡ (beside_graph h g.graph).nodes =
        finite.same_map name_total name_same _ _ (λ n.
        filled g (λ n. n) (finite.get g.graph.nodes) (finite.get h.nodes) is (finite.get now.nodes) has.nodes apart (λ n none. none) n
        ∙ sym (get_beside_node h g.graph n)) in
        λ i. record { nodes = nodes i; feeders = has.feeders i }

  -- with the wires into the nodes of the ids below k
  pub record HasWires (k : ℕ) (now : NamedGraph) : Type 0 where
    pub wires : SoFar g (λ (p : Port). p.node) (finite.get g.graph.feeders) (finite.get h.feeders) k (finite.get now.feeders)
    pub nodes : now.nodes ≡ h.nodes

  pub wires_none : HasWires 0 h
  wires_none = record { wires = so_far_none g (λ p. p.node) (finite.get g.graph.feeders) (finite.get h.feeders) (finite.get h.feeders) (λ p. refl); nodes = refl }

  wires_dead : (k : ℕ) (now next : NamedGraph) → HasWires k now → next ≡ now → finite.get g.ids (id_of k) ≡ None → HasWires (k + 1) next
  wires_dead k now next has same dead =
      record {
        wires = so_far_dead g (λ p. p.node) (finite.get g.graph.feeders) (finite.get h.feeders) k (finite.get now.feeders) has.wires (finite.get next.feeders) (λ p. ap (λ (z : NamedGraph). finite.get z.feeders p) same) dead;
        nodes = ap (λ (z : NamedGraph). z.nodes) same ∙ has.nodes;
      }

  module _ (is : IsGraph g) (away : HasNoWireAt h g.graph) where
    -- no wire of h leads into a node of g
    not_into : (p : Port) (body : Body) → finite.get g.graph.nodes p.node ≡ Some body → finite.get h.feeders p ≡ None
    not_into p body found = at (finite.get h.feeders p) refl
      where
        at : (o : Option Port) → finite.get h.feeders p ≡ o → o ≡ None
        at None e = refl
        at (Some source) e = absurd (none-some body (sym (away p source e).0 ∙ found))

    -- the next node can be fed
    pub can_feed : (k : ℕ) (now : NamedGraph) → HasWires k now → (name : Name) → Denotes g (id_of k) name → CanFeed now g.graph name
    can_feed k now has name live =
        record {
          unfed = λ p here.
              untouched g (λ p. p.node) (finite.get g.graph.feeders) (finite.get h.feeders) k (finite.get now.feeders) has.wires is name live p here
              ∙ (let (body, found) = is.denoted (id_of k) name live in not_into p body (ap (finite.get g.graph.nodes) here ∙ found));
          within = λ p source body fed found.
              elim (done_or_not g (λ p. p.node) (finite.get g.graph.feeders) (finite.get h.feeders) k (finite.get now.feeders) has.wires is p) [
                | inl new ↦ sym new ∙ fed
                | inr old ↦ absurd (none-some body (sym (away p source (sym old ∙ fed)).1 ∙ found))
              ];
        }

    wires_live : (k : ℕ) (now next : NamedGraph) → HasWires k now → (name : Name) → Denotes g (id_of k) name → IsFedAs now g.graph name next → HasWires (k + 1) next
    wires_live k now next has name live fed =
        record {
          wires = so_far_live g (λ p. p.node) (finite.get g.graph.feeders) (finite.get h.feeders) k (finite.get now.feeders) has.wires is name live (finite.get next.feeders) fed.there fed.others;
          nodes = fed.nodes ∙ has.nodes;
        }

    pub wires_more : (k : ℕ) (now next : NamedGraph) → HasWires k now → ((name : Name) → Denotes g (id_of k) name → IsFedAs now g.graph name next)
        → (finite.get g.ids (id_of k) ≡ None → next ≡ now) → HasWires (k + 1) next
    wires_more k now next has live dead = at (finite.get g.ids (id_of k)) refl
      where
        at : (o : Option Name) → finite.get g.ids (id_of k) ≡ o → HasWires (k + 1) next
        at None e = wires_dead k now next has (dead e) e
        at (Some name) e = wires_live k now next has name e (live name e)

    -- an input of no node is fed by nothing
    not_there : (p : Port) → finite.get g.graph.nodes p.node ≡ None → finite.get g.graph.feeders p ≡ None
    not_there p none = at (finite.get g.graph.feeders p) refl
      where
        at : (o : Option Port) → finite.get g.graph.feeders p ≡ o → o ≡ None
        at None e = refl
        at (Some source) e = let wire = is.graph.wires p source e in absurd (none-some wire.to (sym none ∙ wire.is_to))

    pub wires_all : (now : NamedGraph) → HasWires g.slots now → now ≡ with_wires_of h g.graph
    wires_all now has =
        let feeders : now.feeders ≡ (beside_graph h g.graph).feeders =
        finite.same_map port_total port_same _ _ (λ p.
        filled g (λ p. p.node) (finite.get g.graph.feeders) (finite.get h.feeders) is (finite.get now.feeders) has.wires not_into not_there p
        ∙ sym (get_beside_feeder h g.graph p)) in
        λ i. record { nodes = has.nodes i; feeders = feeders i }

-- Where the nodes are there

module _ (h : GraphValue) (is : IsGraph h) (g : NamedGraph) (apart : AreApart h.graph g) where
  pub nodes_there : HasNodesOf (with_nodes_of h.graph g) g
  nodes_there name body found = get_beside_node h.graph g name ∙ ap (λ o. option_or o (finite.get g.nodes name)) (apart name body found) ∙ found

  not_both : (name : Name) (body : Body) → finite.get h.graph.nodes name ≡ Some body → finite.get g.nodes name ≡ None
  not_both name body found = at (finite.get g.nodes name) refl
    where
      at : (o : Option Body) → finite.get g.nodes name ≡ o → o ≡ None
      at None e = refl
      at (Some other) e = absurd (none-some body (sym (apart name other e) ∙ found))

  pub no_wire_there : HasNoWireAt (with_nodes_of h.graph g) g
  no_wire_there target source wired =
      let wire = is.graph.wires target source wired in
      (not_both target.node wire.to wire.is_to, not_both source.node wire.from wire.is_from)

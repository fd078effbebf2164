-- What an Entry fed is fed by another output, and the Entry is taken out, by ids.
use Rattle.std.proofs.Common.{◌≡◌, ◌≢◌, Some, refl, sym, ap, subst, ◌∙◌}
use Rattle.std.proofs.lemmas.Option.{none-some}
use Rattle.std.specs.FinMap as finite
use Rattle.components.specs.Lookups.{get_removed}
use Rattle.components.specs.Name.{Name, Port}
use Rattle.components.specs.NamedGraph.{CanWire, with_wire, without_node}
use Rattle.components.specs.Orders.{name_total, name_same}
use Rattle.circuits.specs.Buffers.{first_port}
use Rattle.graph_core.specs.declared.place.NodeId.{NodeId}
use Rattle.graph_core.specs.declared.place.PortAt.{PortAt}
use Rattle.graph_core.specs.Denoting.{denoted_by, port_left}
use Rattle.graph_core.specs.GraphValue.{GraphValue, Denotes, IsGraph, name_by, port_of, with_link, without_id}
use Rattle.module_sem.specs.Linking.{CanHandOn}

module _ (g : GraphValue) (is : IsGraph g) (entry buffer : NodeId) (hand : CanHandOn g.graph (first_port (name_by g.ids entry)) (first_port (name_by g.ids buffer))) where
  abbrev entry_name : Name
  entry_name = name_by g.ids entry

  abbrev other_name : Name
  other_name = name_by g.ids buffer

  abbrev other_port : PortAt
  other_port = record { node = buffer; port = 1 }

  pub entry_denotes : Denotes g entry entry_name
  entry_denotes = let wire = is.graph.wires hand.target (first_port entry_name) hand.feeds in denoted_by g is (record { node = entry; port = 0 }) entry_name wire.from wire.is_from refl

  buffer_away : buffer ≢ entry
  buffer_away same =
      none-some hand.can.wire.from (sym (get_removed name_total name_same g.graph.nodes entry_name) ∙ ap (λ id. finite.get (without_node g.graph entry_name).nodes (name_by g.ids id)) (sym same) ∙ hand.can.wire.is_from)

  module _ (target : PortAt) (fed : finite.get g.graph.feeders (port_of g target) ≡ Some (first_port entry_name)) where
    same_target : port_of g target ≡ hand.target
    same_target = is.graph.once (port_of g target) hand.target (first_port entry_name) fed hand.feeds

    target_away : target.node ≢ entry
    target_away same =
        let named : hand.target.node ≡ entry_name = ap (λ (p : Port). p.node) (sym same_target) ∙ ap (name_by g.ids) same in
        none-some hand.can.wire.to (sym (get_removed name_total name_same g.graph.nodes entry_name) ∙ ap (finite.get (without_node g.graph entry_name).nodes) (sym named) ∙ hand.can.wire.is_to)

    module _ (h : GraphValue) (out : h ≡ without_id g entry entry_name) where
      other_is : port_of h other_port ≡ first_port other_name
      other_is = ap (λ v. port_of v other_port) out ∙ port_left g entry entry_name other_port buffer_away

      target_is : port_of h target ≡ hand.target
      target_is = ap (λ v. port_of v target) out ∙ port_left g entry entry_name target target_away ∙ same_target

      pub can_hand : CanWire h.graph (port_of h other_port) (port_of h target)
      can_hand =
          subst (λ p. CanWire h.graph p (port_of h target)) (sym other_is) (subst (CanWire h.graph (first_port other_name)) (sym target_is)
          (subst (λ (v : GraphValue). CanWire v.graph (first_port other_name) hand.target) (sym out) hand.can))

      pub handed : (done : GraphValue) → done ≡ with_link h other_port target → (p : Port) → finite.get g.graph.feeders p ≡ Some (first_port entry_name)
          → done.graph ≡ with_wire (without_node g.graph entry_name) (first_port other_name) p
      handed done joined p feeds =
          let same : hand.target ≡ p = is.graph.once hand.target p (first_port entry_name) hand.feeds feeds in
          ap (λ (v : GraphValue). v.graph) joined ∙ (λ i. with_wire (out i).graph (other_is i) ((target_is ∙ same) i))

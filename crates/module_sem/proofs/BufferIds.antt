-- A Buffer in the place of an Exit, by ids.
use Rattle.std.proofs.Common.{◌≡◌, ◌≢◌, Some, None, refl, sym, ap, subst, ◌∙◌}
use Rattle.std.proofs.lemmas.Option.{none-some, same_Some}
use Rattle.std.specs.FinMap as finite
use Rattle.port_types.specs.declared.side.Side.TheVariants.{Ins}
use Rattle.components.specs.declared.kind.Kind.TheVariants.{Exit}
use Rattle.components.specs.declared.node.Node.{Node}
use Rattle.components.specs.Kind.{ins}
use Rattle.components.specs.Lookups.{get_inserted, get_not_inserted, get_removed, get_not_removed}
use Rattle.components.specs.Name.{Name, port_get}
use Rattle.components.specs.Node.{body_of}
use Rattle.components.specs.NamedGraph.{CanWire, IsTyped, with_node, with_wire}
use Rattle.components.specs.Orders.{name_total, name_same}
use Rattle.circuits.specs.Buffers.{first_port}
use Rattle.circuits.specs.PluggedGraph.{buffer_body}
use Rattle.graph_core.specs.declared.place.NodeId.{NodeId}
use Rattle.graph_core.specs.declared.place.PortAt.{PortAt}
use Rattle.graph_core.specs.Denoting.{denoted_by, port_denoted}
use Rattle.graph_core.specs.GraphValue.{GraphValue, Denotes, IsGraph, IsNodeAt, name_by, port_of, with_id, with_link, without_id}
use Rattle.graph_core.specs.Ids.{id_total, id_same}
use Rattle.graph_core.specs.Wiring.{HasPort}
use Rattle.module_sem.specs.Linking.{IsBuffered, IsExit, buffer_node}
use Rattle.module_sem.proofs.Ends.{HasBody, body_behind, name_at, named_denotes}
use Rattle.module_sem.proofs.Buffering.{buffered, can_refeed, exit_output, refed}

module _ (g : GraphValue) (is : IsGraph g) (typed : IsTyped g.graph) (exit : NodeId) (at : IsExit g.graph (name_by g.ids exit)) where
  abbrev name : Name
  name = name_by g.ids exit

  abbrev behind : HasBody (finite.get g.graph.nodes name) (Exit at.0)
  behind = body_behind (finite.get g.graph.nodes name) (Exit at.0) at.1

  pub exit_denotes : Denotes g exit name
  exit_denotes = named_denotes g is exit (Exit at.0) at.1

  pub exit_port : HasPort g.graph Ins (first_port name)
  exit_port = (at.0, (behind.body, behind.is, ap (λ k. port_get (ins k) 1) behind.of_kind))

  module _ (node : Node) (here : IsNodeAt g exit node) where
    named : node.name ≡ name
    named = sym (name_at g exit node here)

    same_body : body_of node ≡ behind.body
    same_body = same_Some _ _ (sym here.body ∙ ap (finite.get g.graph.nodes) named ∙ behind.is)

    -- once the Exit is out, its name is free
    pub name_free : (h : GraphValue) → h ≡ without_id g exit name → finite.get h.graph.nodes node.name ≡ None
    name_free h out = ap (λ (v : GraphValue). finite.get v.graph.nodes node.name) out ∙ ap (finite.get (without_id g exit name).graph.nodes) named ∙ get_removed name_total name_same g.graph.nodes name

    module _ (source : PortAt) (fed : finite.get g.graph.feeders (first_port name) ≡ Some (port_of g source)) (h : GraphValue) (out : h ≡ without_id g exit name) (buffer : NodeId) (fresh : finite.get h.ids buffer ≡ None)
        (made : GraphValue) (put : made ≡ with_id h buffer (buffer_node node)) where
      abbrev source_name : Name
      source_name = name_by g.ids source.node

      source_denotes : Denotes g source.node source_name
      source_denotes = let wire = typed.wires (first_port name) (port_of g source) fed in denoted_by g is source source_name wire.from wire.is_from refl

      -- a node that is not the Exit keeps its id
      keeps : (id : NodeId) (other : Name) → Denotes g id other → other ≢ name → Denotes made id other
      keeps id other denotes away =
          let stays : finite.get h.ids id ≡ Some other = ap (λ (v : GraphValue). finite.get v.ids id) out ∙ get_not_removed id_total id_same g.ids exit id (λ same. away (same_Some _ _ (sym denotes ∙ ap (finite.get g.ids) same ∙ exit_denotes))) ∙ denotes in
          ap (λ (v : GraphValue). finite.get v.ids id) put ∙ get_not_inserted id_total id_same h.ids buffer node.name id (λ same. none-some other (sym fresh ∙ ap (finite.get h.ids) (sym same) ∙ stays)) ∙ stays

      buffer_denotes : Denotes made buffer name
      buffer_denotes = ap (λ (v : GraphValue). finite.get v.ids buffer) put ∙ get_inserted id_total id_same h.ids buffer node.name buffer refl ∙ ap Some named

      made_graph : made.graph ≡ buffered g.graph typed name behind.body behind.is at.0 behind.of_kind
      made_graph = ap (λ (v : GraphValue). v.graph) put ∙ (λ i. with_node (out i).graph (named i) (buffer_body (same_body i)))

      source_is : port_of made source ≡ port_of g source
      source_is = port_denoted made source source_name (keeps source.node source_name source_denotes (exit_output g.graph typed name behind.body behind.is at.0 behind.of_kind (first_port name) (port_of g source) fed))

      buffer_is : port_of made (record { node = buffer; port = 1 }) ≡ first_port name
      buffer_is = port_denoted made (record { node = buffer; port = 1 }) name buffer_denotes

      pub can_join : CanWire made.graph (port_of made source) (port_of made (record { node = buffer; port = 1 }))
      can_join =
          subst (λ p. CanWire made.graph p (port_of made (record { node = buffer; port = 1 }))) (sym source_is) (subst (CanWire made.graph (port_of g source)) (sym buffer_is)
          (subst (λ k. CanWire k (port_of g source) (first_port name)) (sym made_graph) (can_refeed g.graph typed name behind.body behind.is at.0 behind.of_kind (port_of g source) fed)))

      pub is_buffered : (done : GraphValue) → done ≡ with_link made source (record { node = buffer; port = 1 }) → IsBuffered g name buffer done
      is_buffered done joined =
          record {
            body = behind.body;
            was = behind.is;
            graph = ap (λ (v : GraphValue). v.graph) joined ∙ (λ i. with_wire (made_graph i) (source_is i) (buffer_is i)) ∙ refed g.graph typed name behind.body behind.is at.0 behind.of_kind (port_of g source) fed;
            denotes = ap (λ (v : GraphValue). finite.get v.ids buffer) joined ∙ buffer_denotes;
            others = λ id other denotes away. ap (λ (v : GraphValue). finite.get v.ids id) joined ∙ keeps id other denotes away;
          }

-- The wire of an edge, by ids and by names.
use Rattle.std.proofs.Common.{◌≡◌, ◌≢◌, ◌⊎◌, inl, inr, Bool, true, false, ◌||◌, [], Option, Some, None, Result, Ok, Err, unwrap_or, sym, ap, ◌∙◌, codes, if◌then◌else◌}
use Rattle.std.specs.Prelude.{bytes_eq}
use Rattle.std.specs.FinMap as finite
use Rattle.std.proofs.lemmas.Bool.{false_from_ne_true, or_left, or_right}
use Rattle.std.proofs.lemmas.Option.{none-some, same_Some}
use Rattle.port_types.specs.declared.side.Side.{Side}
use Rattle.port_types.specs.declared.side.Side.TheVariants.{Ins, Outs}
use Rattle.dot_text.specs.declared.doc.DocEdge.{DocEdge}
use Rattle.components.specs.Kind.{Shape, ports}
use Rattle.components.specs.Name.{Port, port_get}
use Rattle.components.specs.Node.{Body}
use Rattle.components.specs.NamedGraph.{NamedGraph, CanWire, is_wired}
use Rattle.components.specs.Orders.{same_bytes, other_bytes}
use Rattle.graph_core.specs.declared.place.NodeId.{NodeId}
use Rattle.graph_core.specs.declared.place.PortAt.{PortAt}
use Rattle.graph_core.specs.declared.graph.AddWire.TheVariants as add_wire
use Rattle.graph_core.specs.GraphValue.{GraphValue, Denotes, port_of}
use Rattle.graph_core.specs.Wiring.{HasShape, IsWired, AreThere, Refuses}
use Rattle.graph_read.specs.declared.fault.GraphFaultKind.{GraphFaultKind}
use Rattle.graph_read.specs.declared.fault.GraphFaultKind.TheVariants.{UnknownPort, PortTaken, ShapeDiffers}
use Rattle.graph_read.specs.Attributes.{last_value}
use Rattle.graph_read.specs.GraphReading.{NamedWire, port_there, wire_between, edge_between, edge_reading}
use Rattle.graph_read.specs.GraphSteps.{IsEnd, HasEnds}
use Rattle.graph_read.proofs.OpenPorts.{wired_test, test_wired}

-- What a wire between two ports that are there is read as

abbrev decided : NamedWire → Bool → Bool → Result NamedWire GraphFaultKind
decided wire taken same = if taken then Err PortTaken else (if same then Ok wire else Err ShapeDiffers)

module _ (g : NamedGraph) (source target : Port) (a b : Shape) (leaves : HasShape g Outs source a) (enters : HasShape g Ins target b) where
  abbrev pub reading : Result NamedWire GraphFaultKind
  reading = wire_between g (Some (source, a)) (Some (target, b))

  abbrev wire : NamedWire
  wire = record { source = source; target = target }

  not_taken : ¬ (IsWired g Ins target) → ¬ (IsWired g Outs source) → (is_wired g Ins target || is_wired g Outs source) ≡ false
  not_taken into from =
      (λ i. false_from_ne_true (is_wired g Ins target) (λ test. into (test_wired g Ins target test)) i || false_from_ne_true (is_wired g Outs source) (λ test. from (test_wired g Outs source test)) i)

  at_shape : (side : Side) (p : Port) (x y : Shape) → HasShape g side p x → (body : Body) → finite.get g.nodes p.node ≡ Some body → port_get (ports body.kind side) p.port ≡ Some y → x ≡ y
  at_shape side p x y has body is there =
      let one : has.0 ≡ body = same_Some has.0 body (sym has.1 ∙ is) in
      same_Some x y (sym has.2 ∙ ap (λ (k : Body). port_get (ports k.kind side) p.port) one ∙ there)

  pub joined : CanWire g source target → reading ≡ Ok wire
  joined can =
      let from = at_shape Outs source a can.wire.shape leaves can.wire.from can.wire.is_from can.wire.leaves in
      let to = at_shape Ins target b can.wire.shape enters can.wire.to can.wire.is_to can.wire.enters in
      let into : ¬ (IsWired g Ins target) = λ wired. none-some wired.0 (sym can.target_free ∙ wired.1) in
      let free : ¬ (IsWired g Outs source) = λ wired. can.source_free wired.0 wired.1 in
      (λ i. decided wire (not_taken into free i) (same_bytes a b (from ∙ sym to) i))

  pub is_there : AreThere g source target
  is_there = record { leaving = a; entering = b; output = leaves; input = enters }

  taken_by : IsWired g Ins target ⊎ IsWired g Outs source → (is_wired g Ins target || is_wired g Outs source) ≡ true
  taken_by (inl wired) = or_left (is_wired g Ins target) (is_wired g Outs source) (wired_test g Ins target wired)
  taken_by (inr wired) = or_right (is_wired g Ins target) (is_wired g Outs source) (wired_test g Outs source wired)

  pub port_taken : Refuses g source target add_wire.PortTaken → reading ≡ Err PortTaken
  port_taken refused = ap (λ (t : Bool). decided wire t (bytes_eq a b)) (taken_by refused.1)

  pub shape_differs : Refuses g source target add_wire.ShapeDiffers → reading ≡ Err ShapeDiffers
  shape_differs refused =
      let both = refused.0 in
      let from = at_shape Outs source a both.leaving leaves both.output.0 both.output.1 both.output.2 in
      let to = at_shape Ins target b both.entering enters both.input.0 both.input.1 both.input.2 in
      let other : a ≢ b = λ same. refused.1 (sym from ∙ same ∙ to) in
      (λ i. decided wire (not_taken refused.2 refused.3 i) (other_bytes a b other i))

-- The ends of an edge, where both its nodes are found

module _ (g : GraphValue) (edge : DocEdge) (from to : NodeId) (source_is : Denotes g from edge.source) (target_is : Denotes g to edge.target)
    (source_body target_body : Body) (source_there : finite.get g.graph.nodes edge.source ≡ Some source_body) (target_there : finite.get g.graph.nodes edge.target ≡ Some target_body) where
  abbrev output : Option (Port × Shape)
  output = port_there Outs edge.source source_body (last_value (codes "from") edge.pairs)

  abbrev input : Option (Port × Shape)
  input = port_there Ins edge.target target_body (last_value (codes "to") edge.pairs)

  read_between : edge_reading g.graph edge ≡ wire_between g.graph output input
  read_between = λ i. edge_between g.graph edge (source_there i) (target_there i)

  pub no_source : output ≡ None → edge_reading g.graph edge ≡ Err UnknownPort
  no_source none = read_between ∙ ap (λ (o : Option (Port × Shape)). wire_between g.graph o input) none

  module _ (source : PortAt) (is_source : IsEnd Outs edge.source source_body (last_value (codes "from") edge.pairs) from source) where
    pub no_target : input ≡ None → edge_reading g.graph edge ≡ Err UnknownPort
    no_target none = read_between ∙ (λ i. wire_between g.graph (is_source.is_named i) (none i))

    pub has_ends : (target : PortAt) → IsEnd Ins edge.target target_body (last_value (codes "to") edge.pairs) to target → HasEnds g edge source target
    has_ends target is_target =
        let source_name : edge.source ≡ (port_of g source).node = sym (ap (λ (id : NodeId). unwrap_or (finite.get g.ids id) []) is_source.at ∙ ap (λ (o : Option _). unwrap_or o []) source_is) in
        let target_name : edge.target ≡ (port_of g target).node = sym (ap (λ (id : NodeId). unwrap_or (finite.get g.ids id) []) is_target.at ∙ ap (λ (o : Option _). unwrap_or o []) target_is) in
        record {
          from = is_source.shape;
          to = is_target.shape;
          leaves = (source_body, ap (finite.get g.graph.nodes) (sym source_name) ∙ source_there, is_source.is_port);
          enters = (target_body, ap (finite.get g.graph.nodes) (sym target_name) ∙ target_there, is_target.is_port);
          is_read =
              read_between ∙ (λ i. wire_between g.graph (is_source.is_named i) (is_target.is_named i))
              ∙ (λ i. wire_between g.graph (Some (record { node = source_name i; port = source.port }, is_source.shape)) (Some (record { node = target_name i; port = target.port }, is_target.shape)));
        }

-- The wires of a graph that is read join ports that are there, of one shape, and no output is on two.
use Rattle.std.proofs.Common.{◌≡◌, ◌⊎◌, inl, inr, ℕ, suc, ◌+◌, Bool, true, false, ◌||◌, List, [], ◌∷◌, Option, Some, None, is_some, Result, Ok, Err, refl, sym, ap, subst, ◌∙◌, codes, arith, if◌then◌else◌}
use Rattle.std.specs.Prelude.{bytes_eq}
use Rattle.std.specs.Option.{option_map}
use Rattle.std.specs.FinMap as map
use Rattle.std.proofs.lemmas.Bool.{or_parts, true≢false}
use Rattle.std.proofs.lemmas.Option.{none-some, same_Some}
use Rattle.std.proofs.lemmas.Slice.Eq.{bytes_eq-Decides}
use Rattle.port_types.specs.declared.side.Side.{Side}
use Rattle.port_types.specs.declared.side.Side.TheVariants.{Ins, Outs}
use Rattle.port_types.specs.PortText.{port_name}
use Rattle.dot_text.specs.declared.doc.DocEdge.{DocEdge}
use Rattle.components.specs.Kind.{Shape, ports}
use Rattle.components.specs.Name.{Name, Port, port_cmp, port_get}
use Rattle.components.specs.Node.{Body}
use Rattle.components.specs.NamedGraph.{NamedGraph, IsWire, CanWire, with_wire, is_wired}
use Rattle.graph_read.specs.declared.fault.GraphFaultKind.{GraphFaultKind}
use Rattle.graph_read.specs.declared.fault.GraphFaultKind.TheVariants.{UnknownNode, UnknownPort, PortTaken, ShapeDiffers}
use Rattle.graph_read.specs.Attributes.{last_value}
use Rattle.graph_read.specs.GraphReading.{NamedWire, refusal, then_read, named_in, port_there, wire_between, edge_between, edge_reading, edges_reading, graph_of_nodes}
use Rattle.graph_read.proofs.Answers.{same_answer, refused}
use Rattle.components.specs.Lookups.{get_inserted, get_not_inserted}
use Rattle.components.specs.Orders.{port_total, port_same, port_cases}
use Rattle.components.specs.Wired.{wired_where_fed}

-- The port that an edge names

-- the port stands in the list, so many places behind the first
abbrev IsIn : ℕ → List Shape → ℕ × Shape → Type 0
IsIn number shapes found = (i : ℕ) × (found.0 ≡ number + i) × (port_get shapes (suc i) ≡ Some found.1)

first_or_later : (side : Side) (text : List ℕ) (number : ℕ) (shape : Shape) (shapes : List Shape) (found : ℕ × Shape) →
    (named_in side text (number + 1) shapes ≡ Some found → IsIn (number + 1) shapes found) →
    (test : Bool) → (if test then Some (number, shape) else named_in side text (number + 1) shapes) ≡ Some found → IsIn number (shape ∷ shapes) found
first_or_later side text number shape shapes found later true is =
    let same = same_Some (number, shape) found is in
    let at : number ≡ number + 0 = omega arith in
    (0, ap (λ (f : ℕ × Shape). f.0) (sym same) ∙ at, ap (λ (f : ℕ × Shape). Some f.1) same)
first_or_later side text number shape shapes found later false is =
    let rest = later is in
    let at : number + 1 + rest.0 ≡ number + suc rest.0 = omega arith in
    (suc rest.0, rest.1 ∙ at, rest.2)

is_in : (side : Side) (text : List ℕ) (number : ℕ) (shapes : List Shape) (found : ℕ × Shape) → named_in side text number shapes ≡ Some found → IsIn number shapes found
is_in side text number [] found is = absurd (none-some found is)
is_in side text number (shape ∷ shapes) found is =
    first_or_later side text number shape shapes found (is_in side text (number + 1) shapes found) (bytes_eq text (port_name side number)) is

-- the port is one of the node, with this shape
abbrev IsPort : Side → Name → Body → Port × Shape → Type 0
IsPort side name body found = (found.0.node ≡ name) × (port_get (ports body.kind side) found.0.port ≡ Some found.1)

port_found : (side : Side) (name : Name) (body : Body) (text : List ℕ) (found : Port × Shape) (got : Option (ℕ × Shape)) → named_in side text 1 (ports body.kind side) ≡ got →
    option_map (λ (f : ℕ × Shape). (record { node = name; port = f.0 }, f.1)) got ≡ Some found → IsPort side name body found
port_found side name body text found None named is = absurd (none-some found is)
port_found side name body text found (Some got) named is =
    let same = same_Some (record { node = name; port = got.0 }, got.1) found is in
    let place = is_in side text 1 (ports body.kind side) got named in
    let at : 1 + place.0 ≡ suc place.0 = omega arith in (
      ap (λ (f : Port × Shape). f.0.node) (sym same),
      ap (λ (f : Port × Shape). port_get (ports body.kind side) f.0.port) (sym same)
          ∙ ap (port_get (ports body.kind side)) (place.1 ∙ at)
          ∙ place.2
          ∙ ap (λ (f : Port × Shape). Some f.1) same,
    )

is_port : (side : Side) (name : Name) (body : Body) (text : Option (List ℕ)) (found : Port × Shape) → port_there side name body text ≡ Some found → IsPort side name body found
is_port side name body None found is = absurd (none-some found is)
is_port side name body (Some text) found is = port_found side name body text found (named_in side text 1 (ports body.kind side)) refl is

-- The wire of an edge

-- the wire is between these ports, which have one shape and stand on no wire
record Joins (g : NamedGraph) (wire : NamedWire) (source target : Option (Port × Shape)) : Type 0 where
  shape : Shape
  leaves : source ≡ Some (wire.source, shape)
  enters : target ≡ Some (wire.target, shape)
  target_free : is_wired g Ins wire.target ≡ false
  source_free : is_wired g Outs wire.source ≡ false

joins_both : (g : NamedGraph) (wire : NamedWire) (source target : Port × Shape) (taken same : Bool) →
    (is_wired g Ins target.0 || is_wired g Outs source.0) ≡ taken → bytes_eq source.1 target.1 ≡ same →
    ◌≡◌ {A = Result NamedWire GraphFaultKind} (if taken then Err PortTaken else (if same then Ok (record { source = source.0; target = target.0 }) else Err ShapeDiffers)) (Ok wire) →
    Joins g wire (Some source) (Some target)
joins_both g wire source target true same free shapes is = refused PortTaken wire is
joins_both g wire source target false false free shapes is = refused ShapeDiffers wire is
joins_both g wire source target false true free shapes is =
    let ends = same_answer (record { source = source.0; target = target.0 }) wire is in
    let one : source.1 ≡ target.1 = (bytes_eq-Decides source.1 target.1).0 shapes in
    let frees = or_parts (is_wired g Ins target.0) (is_wired g Outs source.0) free in
    record {
      shape = source.1;
      leaves = λ i. Some ((ends i).source, source.1);
      enters = λ i. Some ((ends i).target, sym one i);
      target_free = ap (λ (w : NamedWire). is_wired g Ins w.target) (sym ends) ∙ frees.0;
      source_free = ap (λ (w : NamedWire). is_wired g Outs w.source) (sym ends) ∙ frees.1;
    }

joins : (g : NamedGraph) (wire : NamedWire) (source target : Option (Port × Shape)) → wire_between g source target ≡ Ok wire → Joins g wire source target
joins g wire None target is = refused UnknownPort wire is
joins g wire (Some source) None is = refused UnknownPort wire is
joins g wire (Some source) (Some target) is =
    joins_both g wire source target (is_wired g Ins target.0 || is_wired g Outs source.0) (bytes_eq source.1 target.1) refl refl is

none_is : {A : Type 0} (o : Option A) → is_some o ≡ false → o ≡ None
none_is None e = refl
none_is (Some x) e = absurd (true≢false e)

can_wire_between : (g : NamedGraph) (edge : DocEdge) (wire : NamedWire) (from to : Option Body) → map.get g.nodes edge.source ≡ from → map.get g.nodes edge.target ≡ to →
    edge_between g edge from to ≡ Ok wire → CanWire g wire.source wire.target
can_wire_between g edge wire None to is_from is_to is = refused UnknownNode wire is
can_wire_between g edge wire (Some from) None is_from is_to is = refused UnknownNode wire is
can_wire_between g edge wire (Some from) (Some to) is_from is_to is =
    let from_text = last_value (codes "from") edge.pairs in
    let to_text = last_value (codes "to") edge.pairs in
    let both = joins g wire (port_there Outs edge.source from from_text) (port_there Ins edge.target to to_text) is in
    let out = is_port Outs edge.source from from_text (wire.source, both.shape) both.leaves in
    let into = is_port Ins edge.target to to_text (wire.target, both.shape) both.enters in
    record {
      wire =
          record {
            from = from;
            to = to;
            shape = both.shape;
            is_from = ap (map.get g.nodes) out.0 ∙ is_from;
            is_to = ap (map.get g.nodes) into.0 ∙ is_to;
            leaves = out.1;
            enters = into.1;
          };
      target_free = none_is (map.get g.feeders wire.target) both.target_free;
      source_free = λ p fed. true≢false (sym (wired_where_fed g p wire.source fed) ∙ both.source_free);
    }

-- the wire of an edge may be added
pub can_wire : (g : NamedGraph) (edge : DocEdge) (wire : NamedWire) → edge_reading g edge ≡ Ok wire → CanWire g wire.source wire.target
can_wire g edge wire is = can_wire_between g edge wire (map.get g.nodes edge.source) (map.get g.nodes edge.target) refl refl is

-- A wire more

-- each wire joins two ports of one shape, and no output is on two
pub record HasWires (g : NamedGraph) : Type 0 where
  pub wires : (target source : Port) → map.get g.feeders target ≡ Some source → IsWire g source target
  pub once : (p q source : Port) → map.get g.feeders p ≡ Some source → map.get g.feeders q ≡ Some source → p ≡ q

module _ (g : NamedGraph) (source target : Port) (can : CanWire g source target) (has : HasWires g) where
  abbrev more : NamedGraph
  more = with_wire g source target

  kept_wire : (a b : Port) → IsWire g a b → IsWire more a b
  kept_wire a b wire = record { from = wire.from; to = wire.to; shape = wire.shape; is_from = wire.is_from; is_to = wire.is_to; leaves = wire.leaves; enters = wire.enters }

  -- an input that is fed is the one of the wire, or it was fed before
  fed_cases : (p a : Port) → map.get more.feeders p ≡ Some a → ((p ≡ target) × (a ≡ source)) ⊎ (map.get g.feeders p ≡ Some a)
  fed_cases p a fed =
      elim (port_cases p target) [
        | inl here ↦ inl (here, same_Some a source (sym fed ∙ get_inserted port_total port_same g.feeders target source p here))
        | inr other ↦ inr (sym (get_not_inserted port_total port_same g.feeders target source p other) ∙ fed)
      ]

  more_wires : (p a : Port) → map.get more.feeders p ≡ Some a → IsWire more a p
  more_wires p a fed =
      elim (fed_cases p a fed) [
        | inl new ↦ subst (λ (ends : Port × Port). IsWire more ends.1 ends.0) (λ i. (sym new.0 i, sym new.1 i)) (kept_wire source target can.wire)
        | inr old ↦ kept_wire a p (has.wires p a old)
      ]

  more_once : (p q a : Port) → map.get more.feeders p ≡ Some a → map.get more.feeders q ≡ Some a → p ≡ q
  more_once p q a fed also =
      elim (fed_cases p a fed) [
        | inl new ↦
            elim (fed_cases q a also) [
              | inl same ↦ new.0 ∙ sym same.0
              | inr old ↦ absurd (can.source_free q (old ∙ ap (λ (s : Port). Some s) new.1))
            ]
        | inr old ↦
            elim (fed_cases q a also) [
              | inl new ↦ absurd (can.source_free p (old ∙ ap (λ (s : Port). Some s) new.1))
              | inr too ↦ has.once p q a old too
            ]
      ]

  pub wire_more : HasWires more
  wire_more = record { wires = more_wires; once = more_once }

-- The wires of all edges

-- what each wire of an edge keeps, all edges keep
module _ (P : NamedGraph → Type 0) (keeps : (g : NamedGraph) (edge : DocEdge) (wire : NamedWire) → edge_reading g edge ≡ Ok wire → P g → P (with_wire g wire.source wire.target)) (h : NamedGraph) where
  first_kept : (g : NamedGraph) (place : ℕ) (edge : DocEdge) (edges : List DocEdge) →
      ((more : NamedGraph) → edges_reading more (place + 1) edges ≡ Ok h → P more → P h) →
      (found : Result NamedWire GraphFaultKind) → edge_reading g edge ≡ found →
      then_read place edge.target found (λ (wire : NamedWire). edges_reading (with_wire g wire.source wire.target) (place + 1) edges) ≡ Ok h → P g → P h
  first_kept g place edge edges others (Err fault) is read holds = refused (refusal fault place edge.target) h read
  first_kept g place edge edges others (Ok wire) is read holds = others (with_wire g wire.source wire.target) read (keeps g edge wire is holds)

  edges_keep : (g : NamedGraph) (place : ℕ) (edges : List DocEdge) → edges_reading g place edges ≡ Ok h → P g → P h
  edges_keep g place [] read holds = subst P (same_answer g h read) holds
  edges_keep g place (edge ∷ edges) read holds =
      first_kept g place edge edges (λ more. edges_keep more (place + 1) edges) (edge_reading g edge) refl read holds

-- edges change no node
pub edges_keep_nodes : (g : NamedGraph) (place : ℕ) (edges : List DocEdge) (h : NamedGraph) → edges_reading g place edges ≡ Ok h → h.nodes ≡ g.nodes
edges_keep_nodes g place edges h read = edges_keep (λ k. k.nodes ≡ g.nodes) (λ before edge wire is same. same) h g place edges read refl

no_wires : (nodes : List (Name × Body)) (target source : Port) → map.get (graph_of_nodes nodes).feeders target ≡ Some source → ⊥
no_wires nodes target source fed = none-some source (sym (map.get-empty port_cmp target) ∙ fed)

-- a graph without wires has none that is wrong
pub nodes_wires : (nodes : List (Name × Body)) → HasWires (graph_of_nodes nodes)
nodes_wires nodes =
    record {
      wires = λ target source fed. absurd (no_wires nodes target source fed);
      once = λ p q source fed also. absurd (no_wires nodes p source fed);
    }

-- edges add only wires that are right
pub edges_wires : (g : NamedGraph) (place : ℕ) (edges : List DocEdge) (h : NamedGraph) → edges_reading g place edges ≡ Ok h → HasWires g → HasWires h
edges_wires g place edges h read has =
    edges_keep HasWires (λ before edge wire is right. wire_more before wire.source wire.target (can_wire before edge wire is) right) h g place edges read has

-- The edges of a canonical document are read as the wires of the graph.
use Rattle.std.proofs.Common.{◌≡◌, ◌≢◌, ℕ, ◌+◌, Bool, true, false, cond, ◌&&◌, ◌||◌, ◌==◌, List, [], ◌∷◌, ◌++◌, map, Some, None, Ok, Err, is_some, refl, sym, ap, ◌∙◌}
use Rattle.std.specs.Prelude.{bytes_eq}
use Rattle.std.specs.Option.{option_or}
use Rattle.std.specs.FinMap as map_of
use Rattle.std.specs.FinMap.Entries.{find}
use Rattle.std.proofs.lemmas.Bool.{and_parts, eqb-true, false_from_ne_true}
use Rattle.std.proofs.lemmas.List.{append-nil, append_assoc}
use Rattle.std.proofs.lemmas.Option.{none-some}
use Rattle.std.proofs.lemmas.Slice.Eq.{bytes_eq-Decides}
use Rattle.port_types.specs.declared.side.Side.{Side}
use Rattle.port_types.specs.declared.side.Side.TheVariants.{Ins, Outs}
use Rattle.port_types.specs.PortText.{port_name}
use Rattle.components.specs.Name.{Name, Port, port_cmp, port_get}
use Rattle.components.specs.Kind.{Shape, ports}
use Rattle.components.specs.Node.{Body}
use Rattle.components.specs.NamedGraph.{NamedGraph, IsTyped, IsWire, with_wire, is_wired}
use Rattle.graph_print.specs.CanonicalText.{edge_entry}
use Rattle.graph_read.specs.declared.fault.GraphFaultKind.TheVariants.{PortTaken, ShapeDiffers}
use Rattle.graph_read.specs.GraphReading.{NamedWire, port_there, wire_between, edge_between, edge_reading, edges_reading, then_read}
use Rattle.components.specs.Entries as lists
use Rattle.components.specs.Orders.{port_total, port_same, same_bytes}
use Rattle.components.specs.Entries.{none_before, found_there, each_entry}
use Rattle.read_back.proofs.MapEntries.{none_passes}

abbrev Wire : Type 0
Wire = Port × Port

abbrev of_source : Port → Wire → Bool
of_source source wire = bytes_eq wire.1.node source.node && (wire.1.port == source.port)

same_source : (p source : Port) → (bytes_eq p.node source.node && (p.port == source.port)) ≡ true → p ≡ source
same_source p source test =
    let parts = and_parts (bytes_eq p.node source.node) (p.port == source.port) test in
    let nodes = (bytes_eq-Decides p.node source.node).0 parts.0 in
    let numbers = eqb-true p.port source.port parts.1 in
    λ i. record { node = nodes i; port = numbers i }

not_taken : (a b : Bool) (wire : NamedWire) (same : Bool) → a ≡ false → b ≡ false → same ≡ true →
    cond (a || b) (Err PortTaken) (cond same (Ok wire) (Err ShapeDiffers)) ≡ Ok wire
not_taken a b wire same none also is = λ i. cond (none i || also i) (Err PortTaken) (cond (is i) (Ok wire) (Err ShapeDiffers))

-- the port of this number is named by its text
abbrev pub NamesPorts : NamedGraph → Type 0
NamesPorts g =
    (side : Side) (name : Name) (body : Body) (number : ℕ) (shape : Shape) → map_of.get g.nodes name ≡ Some body →
    port_get (ports body.kind side) number ≡ Some shape → port_there side name body (Some (port_name side number)) ≡ Some (record { node = name; port = number }, shape)

module _ (g : NamedGraph) (typed : IsTyped g) (named : NamesPorts g) where
  abbrev with_wires : List Wire → NamedGraph
  with_wires wires = record { nodes = g.nodes; feeders = map_of.from_entries wires }

  module _ (before : List Wire) (wire : Wire) (after : List Wire) (whole : map_of.entries g.feeders ≡ before ++ wire ∷ after) where
    abbrev target : Port
    target = wire.0

    abbrev source : Port
    source = wire.1

    found_whole : (q : Port) (p : Port) → find port_cmp q (before ++ wire ∷ after) ≡ Some p → map_of.get g.feeders q ≡ Some p
    found_whole q p found = map_of.get-entries g.feeders q ∙ ap (find port_cmp q) whole ∙ found

    new_target : find port_cmp target before ≡ None
    new_target = none_before port_total port_same g.feeders before wire after whole

    here : map_of.get g.feeders target ≡ Some source
    here = found_there port_total port_same g.feeders before wire after whole

    target_free : map_of.get (with_wires before).feeders target ≡ None
    target_free = map_of.get-from_entries port_total before target ∙ new_target

    -- another wire from the source would be this one
    other_source : (q p : Port) → find port_cmp q before ≡ Some p → p ≢ source
    other_source q p found is =
        let also : map_of.get g.feeders q ≡ Some source = found_whole q source (lists.find-append port_cmp q before (wire ∷ after) ∙ ap (λ f. option_or f (find port_cmp q (wire ∷ after))) found ∙ ap (λ (s : Port). Some s) is) in
        none-some p (sym (ap (λ (t : Port). find port_cmp t before) (typed.once q target source also here) ∙ new_target) ∙ found)

    source_free : is_wired (with_wires before) Outs source ≡ false
    source_free =
        let made = (with_wires before).feeders in
        none_passes (of_source source) (map_of.entries made)
        (each_entry port_total port_same (λ e. of_source source e ≡ false) (map_of.entries made) (map_of.entries_sorted made) (λ q p found.
        let before_has : find port_cmp q before ≡ Some p = sym (map_of.get-from_entries port_total before q) ∙ map_of.get-entries made q ∙ found in
        false_from_ne_true (of_source source (q, p)) (λ test. other_source q p before_has (same_source p source test))))

    is_read : edge_reading (with_wires before) (edge_entry wire) ≡ Ok (record { source = source; target = target })
    is_read =
        let right : IsWire g source target = typed.wires target source here in
        let out = named Outs source.node right.from source.port right.shape right.is_from right.leaves in
        let into = named Ins target.node right.to target.port right.shape right.is_to right.enters in
        (λ i. edge_between (with_wires before) (edge_entry wire) (right.is_from i) (right.is_to i))
        ∙ (λ i. wire_between (with_wires before) (out i) (into i))
        ∙ not_taken (is_some (map_of.get (with_wires before).feeders target)) (is_wired (with_wires before) Outs source) (record { source = source; target = target })
        (bytes_eq right.shape right.shape) (ap is_some target_free) source_free (same_bytes right.shape right.shape refl)

  pub edges_back : (before after : List Wire) (place : ℕ) → map_of.entries g.feeders ≡ before ++ after → edges_reading (with_wires before) place (map edge_entry after) ≡ Ok (with_wires (before ++ after))
  edges_back before [] place whole = ap (λ (ws : List Wire). Ok (with_wires ws)) (sym (append-nil before))
  edges_back before (wire ∷ after) place whole =
      let more : before ++ wire ∷ after ≡ (before ++ wire ∷ []) ++ after = sym (append_assoc before (wire ∷ []) after) in
      ap (λ r. then_read place wire.0.node r (λ w. edges_reading (with_wire (with_wires before) w.source w.target) (place + 1) (map edge_entry after))) (is_read before wire after whole)
      ∙ ap (λ fs. edges_reading (record { nodes = g.nodes; feeders = fs }) (place + 1) (map edge_entry after)) (sym (map_of.from_entries_push port_total port_same before wire.0 wire.1 (new_target before wire after whole)))
      ∙ edges_back (before ++ wire ∷ []) after (place + 1) (whole ∙ more)
      ∙ ap (λ (ws : List Wire). Ok (with_wires ws)) (sym more)

-- Two ports joined by a wire.
use Rattle.std.proofs.Common.{◌≡◌, ◌≢◌, ◌⊎◌, inl, inr, [], Option, Some, None, IsSome, is_some, refl, sym, ap, subst, ◌∙◌, false, true≢false}
use Rattle.std.specs.Option.{option_map}
use Rattle.std.specs.FinMap as finite
use Rattle.port_types.specs.declared.side.Side.{Side}
use Rattle.port_types.specs.declared.side.Side.TheVariants.{Ins, Outs}
use Rattle.graph_core.specs.declared.graph.AddWire.{AddWire}
use Rattle.graph_core.specs.declared.graph.AddWire.TheVariants.{UnknownPort, PortTaken, ShapeDiffers, NoMemory}
use Rattle.components.specs.declared.node.Node.{Node}
use Rattle.components.specs.Name.{Port, port_get}
use Rattle.components.specs.Kind.{Shape, ins, outs, ports}
use Rattle.components.specs.Node.{Body, body_of}
use Rattle.components.specs.NamedGraph.{CanWire}
use Rattle.std.proofs.lemmas.Option.{same_Some, none-some}
use Rattle.graph_core.specs.declared.place.NodeId.{NodeId}
use Rattle.graph_core.specs.declared.place.PortAt.{PortAt}
use Rattle.graph_core.specs.Ends.{flat}
use Rattle.graph_core.specs.Names.{IdsByName}
use Rattle.graph_core.specs.Cells.{CellsValue, with_end}
use Rattle.graph_core.specs.Arena.{CanLink, HasBoth, Owns, RefusesLink, linked}
use Rattle.graph_core.specs.GraphValue.{port_by, with_link}
use Rattle.graph_core.specs.Wiring.{HasShape, IsWired, AreThere, Refuses}
use Rattle.graph_core.specs.Inside.{then, node_at, slot_at, end_at, shape_at, ids_of, value_of, IsArena}
use Rattle.components.specs.Orders.{name_total, name_same, port_total, port_same, port_cases}
use Rattle.components.specs.Lookups.{get_inserted, get_not_inserted}
use Rattle.graph_core.specs.Ids.{id_total, id_same}
use Rattle.graph_core.proofs.Views.{get_id, get_node, get_feeder}
use Rattle.graph_core.proofs.Standing.{some_then, port_live, port_dead, fed, feeds, node_found, nothing_unnamed}
use Rattle.graph_core.proofs.EndChanges.{at_cases, node_after, slot_here, slot_other, slots_after}

-- Cells whose nodes are the same

module _ (c d : CellsValue) (nodes : (q : NodeId) → node_at d q ≡ node_at c q) where
  pub shape_same : (side : Side) (p : PortAt) → shape_at d side p ≡ shape_at c side p
  shape_same side p = ap (λ o. then o (λ node. port_get (ports node.kind side) p.port)) (nodes p.node)

  pub ids_same : ids_of d ≡ ids_of c
  ids_same = finite.same_map id_total id_same _ _ (λ q. get_id d q ∙ ap (option_map (λ (node : Node). node.name)) (nodes q) ∙ sym (get_id c q))

  pub nodes_same : (table : IdsByName) → (value_of d table).graph.nodes ≡ (value_of c table).graph.nodes
  nodes_same table = finite.same_map name_total name_same _ _ (λ q. get_node d table q ∙ at (finite.get table q) ∙ sym (get_node c table q))
    where
      at : (o : Option NodeId) → then o (λ id. option_map body_of (node_at d id)) ≡ then o (λ id. option_map body_of (node_at c id))
      at None = refl
      at (Some id) = ap (option_map body_of) (nodes id)

-- What is known of a port by its name

module _ (c : CellsValue) (table : IdsByName) (ok : IsArena c table) where
  pub shape_there : (side : Side) (p : PortAt) (shape : Shape) → shape_at c side p ≡ Some shape → HasShape (value_of c table).graph side (port_by (ids_of c) p) shape
  shape_there side p shape e =
      let (node, live, shaped) = some_then (λ (node : Node). port_get (ports node.kind side) p.port) (node_at c p.node) shape e in
      (body_of node, ap (λ (z : Port). finite.get (value_of c table).graph.nodes z.node) (port_live c p node live) ∙ node_found c table ok p.node node live, shaped)

  pub shape_back : (side : Side) (p : PortAt) (shape : Shape) → HasShape (value_of c table).graph side (port_by (ids_of c) p) shape → shape_at c side p ≡ Some shape
  shape_back side p shape (body, found, shaped) = at (node_at c p.node) refl
    where
      at : (o : Option Node) → node_at c p.node ≡ o → shape_at c side p ≡ Some shape
      at (Some node) live =
          let is : body_of node ≡ body = same_Some _ _ (sym (node_found c table ok p.node node live) ∙ ap (λ (z : Port). finite.get (value_of c table).graph.nodes z.node) (sym (port_live c p node live)) ∙ found) in
          ap (λ o. then o (λ node. port_get (ports node.kind side) p.port)) live ∙ ap (λ (b : Body). port_get (ports b.kind side) p.port) is ∙ shaped
      at None dead =
          absurd (none-some _ (sym (sym found ∙ ap (λ (z : Port). finite.get (value_of c table).graph.nodes z.node) (port_dead c p dead) ∙ get_node c table [] ∙ ap (λ o. then o (λ id. option_map body_of (node_at c id))) (nothing_unnamed c table ok))))

  pub wired_end : (side : Side) (p : PortAt) → IsSome (end_at c side p) → IsWired (value_of c table).graph side (port_by (ids_of c) p)
  wired_end Ins p some = at (end_at c Ins p) refl some
    where
      at : (o : Option PortAt) → end_at c Ins p ≡ o → IsSome o → IsWired (value_of c table).graph Ins (port_by (ids_of c) p)
      at None e some = absurd (true≢false (sym some))
      at (Some q) e some = (port_by (ids_of c) q, sym (fed c table ok p) ∙ ap (option_map (port_by (ids_of c))) e)
  wired_end Outs p some = at (end_at c Outs p) refl some
    where
      at : (o : Option PortAt) → end_at c Outs p ≡ o → IsSome o → IsWired (value_of c table).graph Outs (port_by (ids_of c) p)
      at None e some = absurd (true≢false (sym some))
      at (Some q) e some = (port_by (ids_of c) q, feeds c table ok p (Some q) e)

  pub free_end : (side : Side) (p : PortAt) → end_at c side p ≡ None → ¬ (IsWired (value_of c table).graph side (port_by (ids_of c) p))
  free_end Ins p none wired = none-some _ (sym (sym wired.1 ∙ sym (fed c table ok p) ∙ ap (option_map (port_by (ids_of c))) none))
  free_end Outs p none wired = feeds c table ok p None none wired.0 wired.1

  module _ (s t : PortAt) where
    abbrev both_there : HasBoth c s t → AreThere (value_of c table).graph (port_by (ids_of c) s) (port_by (ids_of c) t)
    both_there both =
        record { leaving = both.leaving; entering = both.entering; output = shape_there Outs s both.leaving both.leaves; input = shape_there Ins t both.entering both.enters }

    pub refuses : (fault : AddWire) → RefusesLink c s t fault → Refuses (value_of c table).graph (port_by (ids_of c) s) (port_by (ids_of c) t) fault
    refuses UnknownPort why = λ there. elim why [
      | inl none ↦ none-some _ (sym (sym (shape_back Outs s there.leaving there.output) ∙ none))
      | inr none ↦ none-some _ (sym (sym (shape_back Ins t there.entering there.input) ∙ none))
    ]
    refuses PortTaken (both, taken) = (both_there both, elim taken [ inl into ↦ inl (wired_end Ins t into) | inr from ↦ inr (wired_end Outs s from) ])
    refuses ShapeDiffers (both, differ, into, from) = (both_there both, differ, free_end Ins t into, free_end Outs s from)
    refuses NoMemory why = absurd why

    pub can_wire : CanLink c s t → CanWire (value_of c table).graph (port_by (ids_of c) s) (port_by (ids_of c) t)
    can_wire can =
        let (from, is_from, leaves) = shape_there Outs s can.shape can.leaves in
        let (to, is_to, enters) = shape_there Ins t can.shape can.enters in
        record {
          wire = record { from = from; to = to; shape = can.shape; is_from = is_from; is_to = is_to; leaves = leaves; enters = enters };
          target_free = sym (fed c table ok t) ∙ ap (option_map (port_by (ids_of c))) can.into;
          source_free = feeds c table ok s None can.from;
        }

    -- a wire that can be added joins ports that can be linked
    free_by : (side : Side) (p : PortAt) → ¬ (IsWired (value_of c table).graph side (port_by (ids_of c) p)) → end_at c side p ≡ None
    free_by side p free = at (end_at c side p) refl
      where
        at : (o : Option PortAt) → end_at c side p ≡ o → end_at c side p ≡ None
        at None e = e
        at (Some q) e = absurd (free (wired_end side p (ap is_some e)))

    pub can_link_by : CanWire (value_of c table).graph (port_by (ids_of c) s) (port_by (ids_of c) t) → CanLink c s t
    can_link_by can =
        let w = can.wire in
        record {
          shape = w.shape;
          leaves = shape_back Outs s w.shape (w.from, w.is_from, w.leaves);
          enters = shape_back Ins t w.shape (w.to, w.is_to, w.enters);
          into = free_by Ins t (λ wired. none-some _ (sym can.target_free ∙ wired.1));
          from = free_by Outs s (λ wired. can.source_free wired.0 wired.1);
        }

-- What linking finds

pub there_is : {A : Type 0} (o : Option A) → IsSome o → (x : A) × (o ≡ Some x)
there_is None some = absurd (true≢false (sym some))
there_is (Some x) some = (x, refl)

pub none_by : {A : Type 0} (o : Option A) → is_some o ≡ false → o ≡ None
none_by None e = refl
none_by (Some x) e = absurd (true≢false e)

module _ (c : CellsValue) (s t : PortAt) (a b : Node) (from : Owns c Outs s a) (to : Owns c Ins t b) where
  pub has_both : HasBoth c s t
  has_both =
      let (leaving, leaves) = there_is (port_get (outs a.kind) s.port) from.some in
      let (entering, enters) = there_is (port_get (ins b.kind) t.port) to.some in
      record {
        leaving = leaving;
        entering = entering;
        leaves = ap (λ o. then o (λ node. port_get (outs node.kind) s.port)) from.live ∙ leaves;
        enters = ap (λ o. then o (λ node. port_get (ins node.kind) t.port)) to.live ∙ enters;
      }

  pub can_link : port_get (outs a.kind) s.port ≡ port_get (ins b.kind) t.port → end_at c Ins t ≡ None → end_at c Outs s ≡ None → CanLink c s t
  can_link same into out =
      let (shape, leaves) = there_is (port_get (outs a.kind) s.port) from.some in
      record {
        shape = shape;
        leaves = ap (λ o. then o (λ node. port_get (outs node.kind) s.port)) from.live ∙ leaves;
        enters = ap (λ o. then o (λ node. port_get (ins node.kind) t.port)) to.live ∙ sym same ∙ leaves;
        into = into;
        from = out;
      }

  pub shapes_differ : (port_get (outs a.kind) s.port ≡ port_get (ins b.kind) t.port → ⊥) → has_both.leaving ≢ has_both.entering
  unfolding has_both
  shapes_differ differ same =
      differ ((there_is (port_get (outs a.kind) s.port) from.some).1 ∙ ap Some same ∙ sym (there_is (port_get (ins b.kind) t.port) to.some).1)

-- The cells with the wire

module _ (c : CellsValue) (table : IdsByName) (ok : IsArena c table) (s t : PortAt) (can : CanLink c s t) where
  abbrev half : CellsValue
  half = with_end c Outs s (Some t)

  abbrev d : CellsValue
  d = linked c s t

  sides : Outs ≢ Ins
  sides e = let f : (side : Side) → Type 0 = λ side. elim side as (λ _. Type 0) [ Ins ↦ ⊥ | Outs ↦ Unit {0} ] in subst f e tt

  sides_back : Ins ≢ Outs
  sides_back e = sides (sym e)

  node_linked : (q : NodeId) → node_at d q ≡ node_at c q
  node_linked q = node_after half Ins t (Some s) q ∙ node_after c Outs s (Some t) q

  slot_from : slot_at d Outs s ≡ Some (Some t)
  slot_from = slot_other half Ins t (Some s) Outs s (inl sides) ∙ slot_here c Outs s (Some t) (ok.room Outs s can.shape can.leaves)

  slot_into : slot_at d Ins t ≡ Some (Some s)
  slot_into = slot_here half Ins t (Some s) (ap is_some (slot_other c Outs s (Some t) Ins t (inl sides_back)) ∙ ok.room Ins t can.shape can.enters)

  ins_else : (q : PortAt) → q ≢ t → slot_at d Ins q ≡ slot_at c Ins q
  ins_else q apart = slot_other half Ins t (Some s) Ins q (inr apart) ∙ slot_other c Outs s (Some t) Ins q (inl sides_back)

  outs_else : (q : PortAt) → q ≢ s → slot_at d Outs q ≡ slot_at c Outs q
  outs_else q apart = slot_other half Ins t (Some s) Outs q (inl sides) ∙ slot_other c Outs s (Some t) Outs q (inr apart)

  room_linked : (side : Side) (p : PortAt) (shape : Shape) → shape_at d side p ≡ Some shape → IsSome (slot_at d side p)
  room_linked Ins p shape e = elim (at_cases p t) [
    | inl one ↦ ap (λ z. is_some (slot_at d Ins z)) one ∙ ap is_some slot_into
    | inr two ↦ ap is_some (ins_else p two) ∙ ok.room Ins p shape (sym (shape_same c d node_linked Ins p) ∙ e)
  ]
  room_linked Outs p shape e = elim (at_cases p s) [
    | inl one ↦ ap (λ z. is_some (slot_at d Outs z)) one ∙ ap is_some slot_from
    | inr two ↦ ap is_some (outs_else p two) ∙ ok.room Outs p shape (sym (shape_same c d node_linked Outs p) ∙ e)
  ]

  -- a wire is the new one, or was there
  ins_cases : (target source : PortAt) → end_at d Ins target ≡ Some source → (target ≡ t) × (source ≡ s) ⊎ (target ≢ t) × (end_at c Ins target ≡ Some source)
  ins_cases target source e = elim (at_cases target t) [
    | inl one ↦ inl (one, same_Some _ _ (sym e ∙ ap (end_at d Ins) one ∙ ap flat slot_into))
    | inr two ↦ inr (two, ap flat (sym (ins_else target two)) ∙ e)
  ]

  outs_cases : (source target : PortAt) → end_at d Outs source ≡ Some target → (source ≡ s) × (target ≡ t) ⊎ (source ≢ s) × (end_at c Outs source ≡ Some target)
  outs_cases source target e = elim (at_cases source s) [
    | inl one ↦ inl (one, same_Some _ _ (sym e ∙ ap (end_at d Outs) one ∙ ap flat slot_from))
    | inr two ↦ inr (two, ap flat (sym (outs_else source two)) ∙ e)
  ]

  pub link_ok : IsArena d table
  link_ok =
      record {
        nodes = λ q node live. ok.nodes q node (sym (node_linked q) ∙ live);
        listed = λ q node live. ok.listed q node (sym (node_linked q) ∙ live);
        names = λ name q e. let (node, live, is) = ok.names name q e in (node, node_linked q ∙ live, is);
        room = room_linked;
        forth = λ target source e. elim (ins_cases target source e) [
          | inl new ↦ ap (end_at d Outs) new.1 ∙ ap flat slot_from ∙ ap Some (sym new.0)
          | inr old ↦
              let out = ok.forth target source old.1 in
              ap flat (outs_else source (λ same. none-some _ (sym (sym out ∙ ap (end_at c Outs) same ∙ can.from)))) ∙ out
        ];
        back = λ source target e. elim (outs_cases source target e) [
          | inl new ↦ ap (end_at d Ins) new.1 ∙ ap flat slot_into ∙ ap Some (sym new.0)
          | inr old ↦
              let into = ok.back source target old.1 in
              ap flat (ins_else target (λ same. none-some _ (sym (sym into ∙ ap (end_at c Ins) same ∙ can.into)))) ∙ into
        ];
        wires = λ target source e. elim (ins_cases target source e) [
          | inl new ↦ (can.shape, ap (shape_at d Outs) new.1 ∙ shape_same c d node_linked Outs s ∙ can.leaves, ap (shape_at d Ins) new.0 ∙ shape_same c d node_linked Ins t ∙ can.enters)
          | inr old ↦ let (shape, leaves, enters) = ok.wires target source old.1 in (shape, shape_same c d node_linked Outs source ∙ leaves, shape_same c d node_linked Ins target ∙ enters)
        ];
      }

  ids : ids_of d ≡ ids_of c
  ids = ids_same c d node_linked

  else_feeds : (q : Port) → q ≢ port_by (ids_of c) t → (o : Option NodeId) → finite.get table q.node ≡ o
      → then o (λ id. option_map (port_by (ids_of d)) (end_at d Ins (record { node = id; port = q.port }))) ≡ then o (λ id. option_map (port_by (ids_of c)) (end_at c Ins (record { node = id; port = q.port })))
  else_feeds q apart None e = refl
  else_feeds q apart (Some id) e =
      let (node, live, is) = ok.names q.node id e in
      let other : record { node = id; port = q.port } ≢ t = λ same. apart (ap (λ n. record { node = n; port = q.port }) (sym is) ∙ sym (port_live c (record { node = id; port = q.port }) node live) ∙ ap (port_by (ids_of c)) same) in
      λ i. option_map (port_by (ids i)) (flat (ins_else (record { node = id; port = q.port }) other i))

  feeders_linked : (value_of d table).graph.feeders ≡ finite.insert (value_of c table).graph.feeders (port_by (ids_of c) t) (port_by (ids_of c) s)
  feeders_linked = finite.same_map port_total port_same _ _ (λ q. elim (port_cases q (port_by (ids_of c) t)) [
    | inl one ↦ ap (finite.get (value_of d table).graph.feeders) (one ∙ sym (ap (λ m. port_by m t) ids)) ∙ sym (fed d table link_ok t) ∙ ap (option_map (port_by (ids_of d))) (ap flat slot_into) ∙ ap (λ m. Some (port_by m s)) ids
        ∙ sym (get_inserted port_total port_same (value_of c table).graph.feeders (port_by (ids_of c) t) (port_by (ids_of c) s) q one)
    | inr two ↦ get_feeder d table q ∙ else_feeds q two (finite.get table q.node) refl ∙ sym (get_feeder c table q)
        ∙ sym (get_not_inserted port_total port_same (value_of c table).graph.feeders (port_by (ids_of c) t) (port_by (ids_of c) s) q two)
  ])

  slots_linked : d.slots ≡ c.slots
  slots_linked = slots_after half Ins t (Some s) ∙ slots_after c Outs s (Some t)

  pub link_value : value_of d table ≡ with_link (value_of c table) s t
  link_value = λ i. record { graph = record { nodes = nodes_same c d node_linked table i; feeders = feeders_linked i }; ids = ids i; slots = slots_linked i }

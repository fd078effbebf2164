-- A node taken out with the wires at its ports.
use Rattle.std.proofs.Common.{◌≡◌, ◌≢◌, inl, inr, ℕ, zero, suc, Bool, true, false, not, ◌||◌, cond, Option, Some, None, IfSome, is_some, slice_get, refl, sym, ap, ◌∙◌, true≢false}
use Rattle.std.specs.Option.{option_map}
use Rattle.std.specs.Prelude.{unwrap_or, []}
use Rattle.std.specs.FinMap as finite
use Rattle.port_types.specs.declared.side.Side.{Side}
use Rattle.port_types.specs.declared.side.Side.TheVariants.{Ins, Outs}
use Rattle.components.specs.declared.node.Node.{Node}
use Rattle.components.specs.Name.{Name, Port, port_get}
use Rattle.components.specs.Kind.{ports}
use Rattle.components.specs.Node.{body_of}
use Rattle.components.specs.NamedGraph.{is_of, without_node}
use Rattle.std.proofs.lemmas.Option.{same_Some, none-some}
use Rattle.graph_core.specs.declared.place.NodeId.{NodeId}
use Rattle.graph_core.specs.declared.place.PortAt.{PortAt}
use Rattle.graph_core.specs.declared.cells.Cell.{Cell}
use Rattle.graph_core.specs.Ends.{EndList, flat}
use Rattle.graph_core.specs.Names.{IdsByName}
use Rattle.graph_core.specs.Cells.{CellsValue, ends, without_cell}
use Rattle.graph_core.specs.Arena.{cut_ends, without_wired, unlisted}
use Rattle.graph_core.specs.GraphValue.{Denotes, port_by, without_id}
use Rattle.graph_core.specs.Inside.{then, node_at, kept_end, slot_at, end_at, shape_at, ids_of, value_of, IsArena}
use Rattle.components.specs.Orders.{name_total, name_same, name_cases, port_total, port_same, other_bytes, same_bytes}
use Rattle.components.specs.Lookups.{get_removed, get_not_removed, get_retained, found_if, same_by}
use Rattle.graph_core.specs.Ids.{id_total, id_same, id_cases}
use Rattle.graph_core.proofs.Views.{get_id, get_node, get_feeder}
use Rattle.graph_core.proofs.Standing.{some_then, some_flat, end_live, live_id, dead_id, port_live, fed, wire_behind, one_id}
use Rattle.graph_core.proofs.Put.{node_off, slot_off}
use Rattle.graph_core.proofs.Cutting.{outs_not_ins, ins_not_outs, cut_node, cut_slots, cut_room, cut_other, cut_only, cut_keeps, cut_gone}

pub neither : (a b : Bool) → not (a || b) ≡ true → (a ≡ false) × (b ≡ false)
neither true b e = absurd (true≢false (sym e))
neither false true e = absurd (true≢false (sym e))
neither false false e = (refl, refl)

neither_from : (a b : Bool) → a ≡ false → b ≡ false → not (a || b) ≡ true
neither_from true b e f = absurd (true≢false e)
neither_from false true e f = absurd (true≢false f)
neither_from false false e f = refl

module _ (c : CellsValue) (table : IdsByName) (ok : IsArena c table) (id : NodeId) (cell : Cell) (found : finite.get c.cells id ≡ Some cell) where
  abbrev name : Name
  name = cell.node.name

  abbrev w : CellsValue
  w = without_cell c id

  abbrev h : CellsValue
  h = cut_ends w Outs cell.ins

  abbrev e : CellsValue
  e = cut_ends h Ins cell.outs

  abbrev list : IdsByName
  list = finite.remove table name

  live : node_at c id ≡ Some cell.node
  live = ap (option_map (λ (cell : Cell). cell.node)) found

  off : (q : NodeId) → q ≢ id → finite.get w.cells q ≡ finite.get c.cells q
  off q apart = get_not_removed id_total id_same c.cells id q apart

  gone : (q : NodeId) → q ≡ id → finite.get w.cells q ≡ None
  gone q one = ap (finite.get w.cells) one ∙ get_removed id_total id_same c.cells id

  node_same : (q : NodeId) → node_at e q ≡ node_at w q
  node_same q = cut_node h Ins cell.outs q ∙ cut_node w Outs cell.ins q

  node_else : (q : NodeId) → q ≢ id → node_at e q ≡ node_at c q
  node_else q apart = node_same q ∙ node_off c w id off q apart

  node_gone : (q : NodeId) → q ≡ id → node_at e q ≡ None
  node_gone q one = node_same q ∙ ap (option_map (λ (cell : Cell). cell.node)) (gone q one)

  live_before : (q : NodeId) (node : Node) → node_at e q ≡ Some node → (q ≢ id) × (node_at c q ≡ Some node)
  live_before q node is =
      elim (id_cases q id) [
        | inl one ↦ absurd (none-some _ (sym (sym is ∙ node_gone q one)))
        | inr two ↦ (two, sym (node_else q two) ∙ is)
      ]

  other_name : (q : NodeId) (node : Node) → node_at c q ≡ Some node → q ≢ id → node.name ≢ name
  other_name q node is apart same = apart (one_id c table ok q id node cell.node is live same)

  -- the ends at the ports of the node are those that its cell keeps
  kept_index : (list : EndList) (port : ℕ) (q : PortAt) → kept_end list port ≡ Some (Some q) → (i : ℕ) × (slice_get list i ≡ Some (Some q))
  kept_index list zero q is = absurd (none-some _ is)
  kept_index list (suc i) q is = (i, is)

  end_listed : (side : Side) (p q : PortAt) → p.node ≡ id → end_at c side p ≡ Some q → (i : ℕ) × (slice_get (ends cell side) i ≡ Some (Some q))
  end_listed side p q one is =
      kept_index (ends cell side) p.port q (sym (ap (λ o. then o (λ cell. kept_end (ends cell side) p.port)) (ap (finite.get c.cells) one ∙ found)) ∙ some_flat (slot_at c side p) q is)

  listed_end : (side : Side) (i : ℕ) (q : PortAt) → slice_get (ends cell side) i ≡ Some (Some q) → end_at c side (record { node = id; port = suc i }) ≡ Some q
  listed_end side i q is = ap flat (ap (λ o. then o (λ cell. kept_end (ends cell side) (suc i))) found ∙ is)

  dead_slot : (side : Side) (p q : PortAt) → end_at w side p ≡ Some q → (p.node ≢ id) × (end_at c side p ≡ Some q)
  dead_slot side p q is =
      elim (id_cases p.node id) [
        | inl one ↦ absurd (none-some _ (sym (sym is ∙ ap (λ o. flat (then o (λ cell. kept_end (ends cell side) p.port))) (gone p.node one))))
        | inr two ↦ (two, ap flat (sym (slot_off c w id off side p two)) ∙ is)
      ]

  -- a wire that is left was there, and not at the node
  record Left (side : Side) (p q : PortAt) : Type 0 where
    near : p.node ≢ id
    was : end_at c side p ≡ Some q
    far : q.node ≢ id

  left : (side : Side) (p q : PortAt) → end_at e side p ≡ Some q → Left side p q
  left Ins p q is =
      let in_h : end_at h Ins p ≡ Some q = cut_only h Ins cell.outs p q is in
      let in_w : end_at w Ins p ≡ Some q = ap flat (sym (cut_other w Outs cell.ins Ins p ins_not_outs)) ∙ in_h in
      let (near, was) = dead_slot Ins p q in_w in
      record {
        near = near;
        was = was;
        far = λ one.
            let (i, listed) = end_listed Outs q p one (ok.forth p q was) in
            none-some _ (sym (sym is ∙ cut_gone h Ins cell.outs i p listed));
      }
  left Outs p q is =
      let in_h : end_at h Outs p ≡ Some q = ap flat (sym (cut_other h Ins cell.outs Outs p outs_not_ins)) ∙ is in
      let in_w : end_at w Outs p ≡ Some q = cut_only w Outs cell.ins p q in_h in
      let (near, was) = dead_slot Outs p q in_w in
      record {
        near = near;
        was = was;
        far = λ one.
            let (i, listed) = end_listed Ins q p one (ok.back p q was) in
            none-some _ (sym (sym in_h ∙ cut_gone w Outs cell.ins i p listed));
      }

  -- any other wire is left
  stays : (side : Side) (p q : PortAt) → Left side p q → end_at e side p ≡ Some q
  stays Ins p q l =
      let away : (i : ℕ) → slice_get cell.outs i ≢ Some (Some p) = λ i listed.
      let back = ok.back (record { node = id; port = suc i }) p (listed_end Outs i p listed) in
      l.far (ap (λ (z : PortAt). z.node) (same_Some _ _ (sym l.was ∙ back))) in
      ap flat (cut_keeps h Ins cell.outs p away ∙ cut_other w Outs cell.ins Ins p ins_not_outs ∙ slot_off c w id off Ins p l.near) ∙ l.was
  stays Outs p q l =
      let away : (i : ℕ) → slice_get cell.ins i ≢ Some (Some p) = λ i listed.
      let forth = ok.forth (record { node = id; port = suc i }) p (listed_end Ins i p listed) in
      l.far (ap (λ (z : PortAt). z.node) (same_Some _ _ (sym l.was ∙ forth))) in
      ap flat (cut_other h Ins cell.outs Outs p outs_not_ins ∙ cut_keeps w Outs cell.ins p away ∙ slot_off c w id off Outs p l.near) ∙ l.was

  shape_else : (side : Side) (p : PortAt) → p.node ≢ id → shape_at e side p ≡ shape_at c side p
  shape_else side p apart = ap (λ o. then o (λ node. port_get (ports node.kind side) p.port)) (node_else p.node apart)

  pub take_ok : IsArena e list
  take_ok =
      record {
        nodes = λ q node is. ok.nodes q node (live_before q node is).1;
        listed = λ q node is.
            let (apart, was) = live_before q node is in
            get_not_removed name_total name_same table name node.name (other_name q node was apart) ∙ ok.listed q node was;
        names = λ other q listed. elim (name_cases other name) [
          | inl one ↦ absurd (none-some _ (sym (sym listed ∙ ap (finite.get list) one ∙ get_removed name_total name_same table name)))
          | inr two ↦
              let (node, was, is) = ok.names other q (sym (get_not_removed name_total name_same table name other two) ∙ listed) in
              let apart : q ≢ id = λ one. two (sym is ∙ ap (λ (n : Node). n.name) (same_Some _ _ (sym was ∙ ap (node_at c) one ∙ live))) in
              (node, node_else q apart ∙ was, is)
        ];
        room = λ side p shape is.
            let (node, now, _) = some_then (λ (node : Node). port_get (ports node.kind side) p.port) (node_at e p.node) shape is in
            let apart = (live_before p.node node now).0 in
            cut_room h Ins cell.outs side p (cut_room w Outs cell.ins side p (ap is_some (slot_off c w id off side p apart) ∙ ok.room side p shape (sym (shape_else side p apart) ∙ is)));
        forth = λ t s is. let l = left Ins t s is in stays Outs s t (record { near = l.far; was = ok.forth t s l.was; far = l.near });
        back = λ s t is. let l = left Outs s t is in stays Ins t s (record { near = l.far; was = ok.back s t l.was; far = l.near });
        wires = λ t s is.
            let l = left Ins t s is in
            let (shape, leaves, enters) = ok.wires t s l.was in
            (shape, shape_else Outs s l.far ∙ leaves, shape_else Ins t l.near ∙ enters);
      }

  ids_taken : ids_of e ≡ finite.remove (ids_of c) id
  ids_taken = finite.same_map id_total id_same _ _ (λ q. elim (id_cases q id) [
    | inl one ↦ dead_id e q (node_gone q one) ∙ sym (get_removed id_total id_same (ids_of c) id) ∙ ap (finite.get (finite.remove (ids_of c) id)) (sym one)
    | inr two ↦ get_id e q ∙ ap (option_map (λ (node : Node). node.name)) (node_else q two) ∙ sym (get_id c q) ∙ sym (get_not_removed id_total id_same (ids_of c) id q two)
  ])

  port_else : (p : PortAt) → p.node ≢ id → port_by (ids_of e) p ≡ port_by (ids_of c) p
  port_else p apart = ap (λ m. port_by m p) ids_taken ∙ ap (λ o. record { node = unwrap_or o []; port = p.port }) (get_not_removed id_total id_same (ids_of c) id p.node apart)

  body_else : (q : Name) → q ≢ name → (o : Option NodeId) → finite.get table q ≡ o → then o (λ k. option_map body_of (node_at e k)) ≡ then o (λ k. option_map body_of (node_at c k))
  body_else q apart None listed = refl
  body_else q apart (Some k) listed =
      let (node, was, is) = ok.names q k listed in
      ap (option_map body_of) (node_else k (λ one. apart (sym is ∙ ap (λ (n : Node). n.name) (same_Some _ _ (sym was ∙ ap (node_at c) one ∙ live)))))

  nodes_taken : (value_of e list).graph.nodes ≡ finite.remove (value_of c table).graph.nodes name
  nodes_taken = finite.same_map name_total name_same _ _ (λ q. elim (name_cases q name) [
    | inl one ↦ get_node e list q ∙ ap (λ o. then o (λ k. option_map body_of (node_at e k))) (ap (finite.get list) one ∙ get_removed name_total name_same table name)
        ∙ sym (get_removed name_total name_same (value_of c table).graph.nodes name) ∙ ap (finite.get (finite.remove (value_of c table).graph.nodes name)) (sym one)
    | inr two ↦ get_node e list q ∙ ap (λ o. then o (λ k. option_map body_of (node_at e k))) (get_not_removed name_total name_same table name q two) ∙ body_else q two (finite.get table q) refl ∙ sym (get_node c table q)
        ∙ sym (get_not_removed name_total name_same (value_of c table).graph.nodes name q two)
  ])

  -- a port is one of the node by name exactly where it is by id
  not_of : (p : PortAt) (node : Node) (q : Port) → node_at c p.node ≡ Some node → p.node ≢ id → port_by (ids_of c) p ≡ q → is_of name (Some q) ≡ false
  not_of p node q is apart named =
      other_bytes q.node name (λ same. other_name p.node node is apart (ap (λ (z : Port). z.node) (sym (port_live c p node is) ∙ named) ∙ same))

  not_at : (p : PortAt) (q : Port) → is_of name (Some q) ≡ false → port_by (ids_of c) p ≡ q → p.node ≢ id
  not_at p q test named one =
      let own : q.node ≡ name = ap (λ (z : Port). z.node) (sym named) ∙ ap (λ o. unwrap_or o []) (ap (finite.get (ids_of c)) one ∙ live_id c id cell.node live) in
      true≢false (sym (same_bytes q.node name own) ∙ test)

  abbrev stays_named : Port → Bool
  stays_named q = not (is_of name (Some q) || is_of name (finite.get (value_of c table).graph.feeders q))

  feeder_there : (q s : Port) → finite.get (value_of e list).graph.feeders q ≡ Some s → finite.get (finite.retain_keys (value_of c table).graph.feeders stays_named) q ≡ Some s
  feeder_there q s is =
      let b = wire_behind e list take_ok q s (sym (get_feeder e list q) ∙ is) in
      let l = left Ins b.to b.from b.wired in
      let is_to = sym (port_else b.to l.near) ∙ b.is_to in
      let is_from = sym (port_else b.from l.far) ∙ b.is_from in
      let old : finite.get (value_of c table).graph.feeders q ≡ Some s = ap (finite.get (value_of c table).graph.feeders) (sym is_to) ∙ sym (fed c table ok b.to) ∙ ap (option_map (port_by (ids_of c))) l.was ∙ ap Some is_from in
      let (to, to_live) = end_live c Ins b.to b.from l.was in
      let (from, from_live) = end_live c Outs b.from b.to (ok.forth b.to b.from l.was) in
      let not_to = not_of b.to to q to_live l.near is_to in
      let not_from = ap (is_of name) old ∙ not_of b.from from s from_live l.far is_from in
      get_retained port_total port_same (value_of c table).graph.feeders stays_named q
      ∙ ap (λ t. cond t (finite.get (value_of c table).graph.feeders q) None) (neither_from (is_of name (Some q)) (is_of name (finite.get (value_of c table).graph.feeders q)) not_to not_from) ∙ old

  feeder_back : (q s : Port) → finite.get (finite.retain_keys (value_of c table).graph.feeders stays_named) q ≡ Some s → finite.get (value_of e list).graph.feeders q ≡ Some s
  feeder_back q s is =
      let (test, old) = found_if (stays_named q) (finite.get (value_of c table).graph.feeders q) s (sym (get_retained port_total port_same (value_of c table).graph.feeders stays_named q) ∙ is) in
      let tests = neither (is_of name (Some q)) (is_of name (finite.get (value_of c table).graph.feeders q)) test in
      let b = wire_behind c table ok q s (sym (get_feeder c table q) ∙ old) in
      let near = not_at b.to q tests.0 b.is_to in
      let far = not_at b.from s (ap (is_of name) (sym old) ∙ tests.1) b.is_from in
      let wired = stays Ins b.to b.from (record { near = near; was = b.wired; far = far }) in
      ap (finite.get (value_of e list).graph.feeders) (sym (port_else b.to near ∙ b.is_to)) ∙ sym (fed e list take_ok b.to) ∙ ap (option_map (port_by (ids_of e))) wired ∙ ap Some (port_else b.from far ∙ b.is_from)

  feeders_taken : (value_of e list).graph.feeders ≡ (without_node (value_of c table).graph name).feeders
  feeders_taken = same_by port_total port_same _ _ feeder_there feeder_back

  pub take_value : value_of e list ≡ without_id (value_of c table) id name
  take_value = λ i. record { graph = record { nodes = nodes_taken i; feeders = feeders_taken i }; ids = ids_taken i; slots = (cut_slots h Ins cell.outs ∙ cut_slots w Outs cell.ins) i }

-- All together

pub record Taken (c : CellsValue) (table : IdsByName) (id : NodeId) (o : Option Cell) (d : CellsValue) (list : IdsByName) : Type 0 where
  pub ok : IsArena d list
  pub value : IfSome (option_map (λ cell. cell.node) o) (λ node. value_of d list ≡ without_id (value_of c table) id node.name)

pub taken : (c : CellsValue) (table : IdsByName) → IsArena c table → (id : NodeId) (o : Option Cell) → finite.get c.cells id ≡ o → Taken c table id o (without_wired c id o) (unlisted table o)
taken c table ok id None e = record { ok = ok; value = tt }
taken c table ok id (Some cell) e = record { ok = take_ok c table ok id cell e; value = take_value c table ok id cell e }

pub taken_named : (c : CellsValue) (table : IdsByName) (id : NodeId) (o : Option Cell) (d : CellsValue) (list : IdsByName) → finite.get c.cells id ≡ o → Taken c table id o d list
    → (name : Name) → Denotes (value_of c table) id name → value_of d list ≡ without_id (value_of c table) id name
taken_named c table id None d list e taken name denotes = absurd (none-some _ (sym (sym denotes ∙ dead_id c id (ap (option_map (λ (cell : Cell). cell.node)) e))))
taken_named c table id (Some cell) d list e taken name denotes =
    taken.value ∙ ap (without_id (value_of c table) id) (same_Some _ _ (sym (live_id c id cell.node (ap (option_map (λ (cell : Cell). cell.node)) e)) ∙ denotes))

-- What looking up in a graph answers.
use Rattle.std.proofs.Common.{◌≡◌, ◌≢◌, ◌≤◌, [], length, Option, Some, None, MatchOption, is_some, refl, sym, ap, ◌∙◌, arith}
use Rattle.std.specs.Option.{option_map}
use Rattle.std.specs.Prelude.{unwrap_or}
use Rattle.std.specs.FinMap as finite
use Rattle.port_types.specs.declared.side.Side.{Side}
use Rattle.port_types.specs.declared.side.Side.TheVariants.{Ins, Outs}
use Rattle.components.specs.declared.node.Node.{Node}
use Rattle.components.specs.Name.{Name, Port, name_cmp, port_cmp, port_get}
use Rattle.components.specs.Kind.{ports}
use Rattle.components.specs.Node.{body_of}
use Rattle.std.proofs.lemmas.Option.{same_Some, none-some}
use Rattle.graph_core.specs.declared.place.NodeId.{NodeId}
use Rattle.graph_core.specs.declared.place.PortAt.{PortAt}
use Rattle.graph_core.specs.declared.cells.Cell.{Cell}
use Rattle.graph_core.specs.Ends.{flat}
use Rattle.graph_core.specs.Names.{IdsByName}
use Rattle.graph_core.specs.Place.{id_cmp}
use Rattle.components.specs.Orders.{name_total, name_same, port_total, port_same}
use Rattle.graph_core.specs.Ids.{id_total, id_same}
use Rattle.graph_core.specs.Cells.{CellsValue, ends}
use Rattle.graph_core.specs.GraphValue.{Denotes, IsNodeAt, no_nodes, port_by, port_of}
use Rattle.graph_core.specs.Inside.{then, node_at, kept_end, slot_at, end_at, ids_of, feeder_under, value_of, IsArena}
use Rattle.graph_core.proofs.Views.{get_id, get_node, get_feeder}

pub some_of : {A B : Type 0} (f : A → B) (o : Option A) (y : B) → option_map f o ≡ Some y → (x : A) × (o ≡ Some x) × (f x ≡ y)
some_of f None y e = absurd (none-some _ e)
some_of f (Some x) y e = (x, refl, same_Some _ _ e)

pub some_then : {A B : Type 0} (f : A → Option B) (o : Option A) (y : B) → then o f ≡ Some y → (x : A) × (o ≡ Some x) × (f x ≡ Some y)
some_then f None y e = absurd (none-some _ e)
some_then f (Some x) y e = (x, refl, e)

pub some_flat : {A : Type 0} (o : Option (Option A)) (x : A) → flat o ≡ Some x → o ≡ Some (Some x)
some_flat None x e = absurd (none-some _ e)
some_flat (Some end) x e = ap Some e

-- a port that has something at its other end is one of a live node
pub end_live : (c : CellsValue) (side : Side) (p q : PortAt) → end_at c side p ≡ Some q → (node : Node) × (node_at c p.node ≡ Some node)
end_live c side p q e =
    let (cell, found, kept) = some_then (λ (cell : Cell). kept_end (ends cell side) p.port) (finite.get c.cells p.node) (Some q) (some_flat (slot_at c side p) q e) in
    (cell.node, ap (option_map (λ (cell : Cell). cell.node)) found)

module _ (c : CellsValue) where
  pub live_id : (id : NodeId) (node : Node) → node_at c id ≡ Some node → finite.get (ids_of c) id ≡ Some node.name
  live_id id node live = get_id c id ∙ ap (option_map (λ (node : Node). node.name)) live

  pub dead_id : (id : NodeId) → node_at c id ≡ None → finite.get (ids_of c) id ≡ None
  dead_id id dead = get_id c id ∙ ap (option_map (λ (node : Node). node.name)) dead

  pub port_live : (p : PortAt) (node : Node) → node_at c p.node ≡ Some node → port_by (ids_of c) p ≡ record { node = node.name; port = p.port }
  port_live p node live = ap (λ o. record { node = unwrap_or o []; port = p.port }) (live_id p.node node live)

  pub port_dead : (p : PortAt) → node_at c p.node ≡ None → port_by (ids_of c) p ≡ record { node = []; port = p.port }
  port_dead p dead = ap (λ o. record { node = unwrap_or o []; port = p.port }) (dead_id p.node dead)

-- behind a wire by names stands one between ports
pub record WireBehind (c : CellsValue) (q source : Port) : Type 0 where
  pub to : PortAt
  pub from : PortAt
  pub wired : end_at c Ins to ≡ Some from
  pub is_to : port_by (ids_of c) to ≡ q
  pub is_from : port_by (ids_of c) from ≡ source

module _ (c : CellsValue) (table : IdsByName) (ok : IsArena c table) where
  no_empty_name : (id : NodeId) → finite.get table [] ≡ Some id → ⊥
  no_empty_name id listed =
      let (node, live, is) = ok.names [] id listed in
      let some : 1 ≤ length node.name = (ok.nodes id node live).name.some in
      let none : length node.name ≡ 0 = ap length is in
      omega arith

  pub nothing_unnamed : finite.get table [] ≡ None
  nothing_unnamed = at (finite.get table []) refl
    where
      at : (o : Option NodeId) → finite.get table [] ≡ o → o ≡ None
      at None e = refl
      at (Some id) e = absurd (no_empty_name id e)

  -- what feeds an input, by names
  pub feeder_at : (p : PortAt) → option_map (port_by (ids_of c)) (end_at c Ins p) ≡ feeder_under c table (port_by (ids_of c) p)
  feeder_at p = at (node_at c p.node) refl
    where
      at : (o : Option Node) → node_at c p.node ≡ o → option_map (port_by (ids_of c)) (end_at c Ins p) ≡ feeder_under c table (port_by (ids_of c) p)
      at (Some node) live = sym (ap (feeder_under c table) (port_live c p node live) ∙ ap (λ o. then o (λ id. option_map (port_by (ids_of c)) (end_at c Ins (record { node = id; port = p.port })))) (ok.listed p.node node live))
      at None dead =
          no_end (end_at c Ins p) (λ q e. let l = end_live c Ins p q e in none-some _ (sym (sym l.1 ∙ dead)))
          ∙ sym (ap (feeder_under c table) (port_dead c p dead) ∙ ap (λ o. then o (λ id. option_map (port_by (ids_of c)) (end_at c Ins (record { node = id; port = p.port })))) nothing_unnamed)
        where
          no_end : (o : Option PortAt) → ((q : PortAt) → o ≡ Some q → ⊥) → option_map (port_by (ids_of c)) o ≡ None
          no_end None none = refl
          no_end (Some q) none = absurd (none q refl)

  pub fed : (p : PortAt) → option_map (port_of (value_of c table)) (end_at c Ins p) ≡ finite.get (value_of c table).graph.feeders (port_of (value_of c table) p)
  fed p = feeder_at p ∙ sym (get_feeder c table (port_by (ids_of c) p))

  pub wire_behind : (q source : Port) → feeder_under c table q ≡ Some source → WireBehind c q source
  wire_behind q source found =
      let (id, listed, feeds) = some_then (λ (id : NodeId). option_map (port_by (ids_of c)) (end_at c Ins (record { node = id; port = q.port }))) (finite.get table q.node) source found in
      let (from, wired, is_from) = some_of (port_by (ids_of c)) (end_at c Ins (record { node = id; port = q.port })) source feeds in
      let (node, live, is_name) = ok.names q.node id listed in
      record {
        to = record { node = id; port = q.port };
        from = from;
        wired = wired;
        is_to = port_live c (record { node = id; port = q.port }) node live ∙ ap (λ n. record { node = n; port = q.port }) is_name;
        is_from = is_from;
      }

  -- different live nodes have different names
  pub one_id : (i j : NodeId) (a b : Node) → node_at c i ≡ Some a → node_at c j ≡ Some b → a.name ≡ b.name → i ≡ j
  one_id i j a b live other same = same_Some _ _ (sym (ok.listed i a live) ∙ ap (finite.get table) same ∙ ok.listed j b other)

  -- a port of a live node has no other's name
  pub one_port : (p q : PortAt) (node : Node) → node_at c p.node ≡ Some node → port_by (ids_of c) p ≡ port_by (ids_of c) q → p ≡ q
  one_port p q node live same = at (node_at c q.node) refl
    where
      named : record { node = node.name; port = p.port } ≡ port_by (ids_of c) q
      named = sym (port_live c p node live) ∙ same

      at : (o : Option Node) → node_at c q.node ≡ o → p ≡ q
      at (Some other) e =
          let both : record { node = node.name; port = p.port } ≡ record { node = other.name; port = q.port } = named ∙ port_live c q other e in
          let ids = one_id p.node q.node node other live e (ap (λ (z : Port). z.node) both) in
          λ i. record { node = ids i; port = (both i).port }
      at None e =
          let both : record { node = node.name; port = p.port } ≡ record { node = []; port = q.port } = named ∙ port_dead c q e in
          absurd (no_empty_name p.node (ap (λ (z : Port). finite.get table z.node) (sym both) ∙ ok.listed p.node node live))

  pub feeds : (s : PortAt) (o : Option PortAt) → end_at c Outs s ≡ o → MatchOption o ((q : Port) → finite.get (value_of c table).graph.feeders q ≢ Some (port_of (value_of c table) s))
      (λ t. finite.get (value_of c table).graph.feeders (port_of (value_of c table) t) ≡ Some (port_of (value_of c table) s))
  feeds s (Some t) e = sym (fed t) ∙ ap (option_map (port_by (ids_of c))) (ok.back s t e)
  feeds s None e = λ q wired.
      let behind = wire_behind q (port_by (ids_of c) s) (sym (get_feeder c table q) ∙ wired) in
      let out = ok.forth behind.to behind.from behind.wired in
      let (node, live) = end_live c Outs behind.from behind.to out in
      let same = one_port behind.from s node live behind.is_from in
      none-some _ (sym (sym out ∙ ap (end_at c Outs) same ∙ e))

  pub finds : (name : Name) (o : Option NodeId) → finite.get table name ≡ o → MatchOption o (finite.get (value_of c table).graph.nodes name ≡ None) (λ id. Denotes (value_of c table) id name)
  finds name None e = get_node c table name ∙ ap (λ o. then o (λ id. option_map body_of (node_at c id))) e
  finds name (Some id) e = let (node, live, is) = ok.names name id e in live_id c id node live ∙ ap Some is

  pub node_found : (id : NodeId) (node : Node) → node_at c id ≡ Some node → finite.get (value_of c table).graph.nodes node.name ≡ Some (body_of node)
  node_found id node live = get_node c table node.name ∙ ap (λ o. then o (λ id. option_map body_of (node_at c id))) (ok.listed id node live) ∙ ap (option_map body_of) live

  pub node_is : (id : NodeId) (o : Option Node) → node_at c id ≡ o → MatchOption o (finite.get (value_of c table).ids id ≡ None) (IsNodeAt (value_of c table) id)
  node_is id None e = dead_id c id e
  node_is id (Some node) e = record { denotes = live_id c id node e; body = node_found id node e; ok = ok.nodes id node e }

  -- a name is one of the graph exactly where the table has it
  pub name_known : (name : Name) (o : Option NodeId) → finite.get table name ≡ o → is_some (finite.get (value_of c table).graph.nodes name) ≡ is_some o
  name_known name None e = ap is_some (finds name None e)
  name_known name (Some id) e =
      let (node, live, is) = ok.names name id e in
      ap (λ n. is_some (finite.get (value_of c table).graph.nodes n)) (sym is) ∙ ap is_some (node_found id node live)

pub IsArena-empty : (c : CellsValue) (table : IdsByName) → c.cells ≡ finite.empty → table ≡ finite.empty → IsArena c table
IsArena-empty c table none empty =
    record {
      nodes = λ id node live. absurd (no_node id node live);
      listed = λ id node live. absurd (no_node id node live);
      names = λ name id e. absurd (no_name name id e);
      room = λ side p shape e. let (node, live, _) = some_then (λ (node : Node). port_get (ports node.kind side) p.port) (node_at c p.node) shape e in absurd (no_node p.node node live);
      forth = λ t s e. let (node, live) = end_live c Ins t s e in absurd (no_node t.node node live);
      back = λ s t e. let (node, live) = end_live c Outs s t e in absurd (no_node s.node node live);
      wires = λ t s e. let (node, live) = end_live c Ins t s e in absurd (no_node t.node node live);
    }
  where
    no_node : (id : NodeId) (node : Node) → node_at c id ≡ Some node → ⊥
    no_node id node live = none-some _ (sym (sym live ∙ ap (option_map (λ (cell : Cell). cell.node)) (ap (λ m. finite.get m id) none ∙ finite.get-empty id_cmp id)))

    no_name : (name : Name) (id : NodeId) → finite.get table name ≡ Some id → ⊥
    no_name name id e = none-some _ (sym (sym e ∙ ap (λ (m : IdsByName). finite.get m name) empty ∙ finite.get-empty name_cmp name))

pub value-empty : (c : CellsValue) (table : IdsByName) → c.cells ≡ finite.empty → c.slots ≡ 0 → table ≡ finite.empty → value_of c table ≡ no_nodes
value-empty c table none count empty =
    λ i. record { graph = record { nodes = nodes i; feeders = feeders i }; ids = ids i; slots = count i }
  where
    no_node : (id : NodeId) → node_at c id ≡ None
    no_node id = ap (option_map (λ (cell : Cell). cell.node)) (ap (λ m. finite.get m id) none ∙ finite.get-empty id_cmp id)

    no_name : (name : Name) → finite.get table name ≡ None
    no_name name = ap (λ (m : IdsByName). finite.get m name) empty ∙ finite.get-empty name_cmp name

    ids : ids_of c ≡ finite.empty
    ids = finite.same_map id_total id_same _ _ (λ q. dead_id c q (no_node q) ∙ sym (finite.get-empty id_cmp q))

    nodes : (value_of c table).graph.nodes ≡ finite.empty
    nodes = finite.same_map name_total name_same _ _ (λ q. get_node c table q ∙ ap (λ o. then o (λ id. option_map body_of (node_at c id))) (no_name q) ∙ sym (finite.get-empty name_cmp q))

    feeders : (value_of c table).graph.feeders ≡ finite.empty
    feeders = finite.same_map port_total port_same _ _ (λ q. get_feeder c table q ∙ ap (λ o. then o (λ id. option_map (port_by (ids_of c)) (end_at c Ins (record { node = id; port = q.port })))) (no_name q.node) ∙ sym (finite.get-empty port_cmp q))

-- A node put into a new cell.
use Rattle.std.proofs.Common.{◌≡◌, ◌≢◌, ◌⊎◌, inl, inr, ℕ, zero, suc, List, [], ◌∷◌, length, replicate, max, Option, Some, None, IsSome, is_some, refl, sym, ap, subst, ◌∙◌}
use Rattle.std.specs.Option.{option_map}
use Rattle.std.specs.Prelude.{unwrap_or}
use Rattle.std.specs.FinMap as finite
use Rattle.port_types.specs.declared.side.Side.{Side}
use Rattle.port_types.specs.declared.side.Side.TheVariants.{Ins, Outs}
use Rattle.components.specs.declared.node.Node.{Node}
use Rattle.components.specs.Name.{Name, Port, port_get}
use Rattle.components.specs.Kind.{Shape, ins, outs, ports}
use Rattle.components.specs.Node.{NodeOk, body_of}
use Rattle.std.proofs.lemmas.Option.{same_Some, none-some}
use Rattle.graph_core.specs.declared.place.NodeId.{NodeId}
use Rattle.graph_core.specs.declared.place.PortAt.{PortAt}
use Rattle.graph_core.specs.declared.cells.Cell.{Cell}
use Rattle.graph_core.specs.Ends.{flat}
use Rattle.graph_core.specs.Names.{IdsByName}
use Rattle.graph_core.specs.Cells.{CellsValue, bare, ends}
use Rattle.graph_core.specs.Arena.{IsPut, ListsAt, listed_at}
use Rattle.graph_core.specs.GraphValue.{port_by, with_id}
use Rattle.graph_core.specs.Inside.{then, node_at, kept_end, slot_at, end_at, shape_at, ids_of, value_of, IsArena}
use Rattle.components.specs.Orders.{name_total, name_same, name_cases, port_total, port_same}
use Rattle.components.specs.Lookups.{get_inserted, get_not_inserted, put_twice}
use Rattle.graph_core.specs.Ids.{id_total, id_same, id_cases}
use Rattle.graph_core.specs.Place.{id_cmp}
use Rattle.graph_core.proofs.Tables.{len-map_values}
use Rattle.graph_core.proofs.Views.{get_id, get_node, get_feeder}
use Rattle.graph_core.proofs.Standing.{some_then, end_live, live_id}

-- A bare cell

none_kept : (n i : ℕ) → flat (kept_end (replicate n None) i) ≡ None
none_kept n zero = refl
none_kept zero (suc i) = refl
none_kept (suc n) (suc zero) = refl
none_kept (suc n) (suc (suc i)) = none_kept n (suc i)

kept_each : {A : Type 0} (xs : List A) (i : ℕ) (x : A) → port_get xs i ≡ Some x → IsSome (kept_end (replicate (length xs) None) i)
kept_each [] i x e = absurd (none-some _ e)
kept_each (y ∷ xs) zero x e = absurd (none-some _ e)
kept_each (y ∷ xs) (suc zero) x e = refl
kept_each (y ∷ xs) (suc (suc i)) x e = kept_each xs (suc i) x e

bare_end : (node : Node) (side : Side) (port : ℕ) → flat (kept_end (ends (bare node) side) port) ≡ None
bare_end node Ins port = none_kept (length (ins node.kind)) port
bare_end node Outs port = none_kept (length (outs node.kind)) port

bare_room : (node : Node) (side : Side) (port : ℕ) (shape : Shape) → port_get (ports node.kind side) port ≡ Some shape → IsSome (kept_end (ends (bare node) side) port)
bare_room node Ins port shape e = kept_each (ins node.kind) port shape e
bare_room node Outs port shape e = kept_each (outs node.kind) port shape e

-- two sets of cells are alike but for one id
module _ (c d : CellsValue) (id : NodeId) (off : (q : NodeId) → q ≢ id → finite.get d.cells q ≡ finite.get c.cells q) where
  pub node_off : (q : NodeId) → q ≢ id → node_at d q ≡ node_at c q
  node_off q apart = ap (option_map (λ (cell : Cell). cell.node)) (off q apart)

  pub slot_off : (side : Side) (p : PortAt) → p.node ≢ id → slot_at d side p ≡ slot_at c side p
  slot_off side p apart = ap (λ o. then o (λ cell. kept_end (ends cell side) p.port)) (off p.node apart)

  pub end_off : (side : Side) (p : PortAt) → p.node ≢ id → end_at d side p ≡ end_at c side p
  end_off side p apart = ap flat (slot_off side p apart)

  pub shape_off : (side : Side) (p : PortAt) → p.node ≢ id → shape_at d side p ≡ shape_at c side p
  shape_off side p apart = ap (λ o. then o (λ node. port_get (ports node.kind side) p.port)) (node_off p.node apart)

  pub port_off : (p : PortAt) → p.node ≢ id → port_by (ids_of d) p ≡ port_by (ids_of c) p
  port_off p apart = ap (λ o. record { node = unwrap_or o []; port = p.port }) (get_id d p.node ∙ ap (option_map (λ (node : Node). node.name)) (node_off p.node apart) ∙ sym (get_id c p.node))

-- what feeds an input stays where its end and that one's name stay
pub same_feeds : (c d : CellsValue) (t : PortAt) → end_at d Ins t ≡ end_at c Ins t → ((s : PortAt) → end_at c Ins t ≡ Some s → port_by (ids_of d) s ≡ port_by (ids_of c) s) → option_map (port_by (ids_of d)) (end_at d Ins t) ≡ option_map (port_by (ids_of c)) (end_at c Ins t)
same_feeds c d t same names = ap (option_map (port_by (ids_of d))) same ∙ at (end_at c Ins t) names
  where
    at : (o : Option PortAt) → ((s : PortAt) → o ≡ Some s → port_by (ids_of d) s ≡ port_by (ids_of c) s) → option_map (port_by (ids_of d)) o ≡ option_map (port_by (ids_of c)) o
    at None names = refl
    at (Some s) names = ap Some (names s refl)

module _ (c : CellsValue) (table : IdsByName) (ok : IsArena c table) (id : NodeId) (node : Node) (right : NodeOk node) (fresh : finite.get table node.name ≡ None) (d : CellsValue) (list : IdsByName) (put : IsPut c table id node d list) where
  off : (q : NodeId) → q ≢ id → finite.get d.cells q ≡ finite.get c.cells q
  off q apart = ap (λ m. finite.get m q) put.cells ∙ get_not_inserted id_total id_same c.cells id (bare node) q apart

  cell_here : finite.get d.cells id ≡ Some (bare node)
  cell_here = ap (λ m. finite.get m id) put.cells ∙ get_inserted id_total id_same c.cells id (bare node) id refl

  node_here : (q : NodeId) → q ≡ id → node_at d q ≡ Some node
  node_here q one = ap (node_at d) one ∙ ap (option_map (λ (cell : Cell). cell.node)) cell_here

  end_here : (side : Side) (p : PortAt) → p.node ≡ id → end_at d side p ≡ None
  end_here side p one = ap (λ o. flat (then o (λ cell. kept_end (ends cell side) p.port))) (ap (finite.get d.cells) one ∙ cell_here) ∙ bare_end node side p.port

  dead : node_at c id ≡ None
  dead = ap (option_map (λ (cell : Cell). cell.node)) put.vacant

  other : (q : NodeId) (found : Node) → node_at c q ≡ Some found → q ≢ id
  other q found live one = none-some _ (sym (sym live ∙ ap (node_at c) one ∙ dead))

  other_name : (q : NodeId) (found : Node) → node_at c q ≡ Some found → found.name ≢ node.name
  other_name q found live same = none-some _ (sym (sym (ok.listed q found live) ∙ ap (finite.get table) same ∙ fresh))

  listed_other : (name : Name) → name ≢ node.name → finite.get list name ≡ finite.get table name
  listed_other name apart = ap (λ m. finite.get m name) put.names ∙ get_not_inserted name_total name_same table node.name id name apart

  listed_here : (name : Name) → name ≡ node.name → finite.get list name ≡ Some id
  listed_here name one = ap (λ m. finite.get m name) put.names ∙ get_inserted name_total name_same table node.name id name one

  -- a wire there was one before
  before : (side : Side) (p q : PortAt) → end_at d side p ≡ Some q → (p.node ≢ id) × (end_at c side p ≡ Some q)
  before side p q e =
      elim (id_cases p.node id) [
        | inl one ↦ absurd (none-some _ (sym (sym e ∙ end_here side p one)))
        | inr two ↦ (two, sym (end_off c d id off side p two) ∙ e)
      ]

  stays : (side : Side) (p q : PortAt) → end_at c side p ≡ Some q → end_at d side p ≡ Some q
  stays side p q e = let (found, live) = end_live c side p q e in end_off c d id off side p (other p.node found live) ∙ e

  shape_stays : (side : Side) (p : PortAt) (shape : Shape) → shape_at c side p ≡ Some shape → shape_at d side p ≡ Some shape
  shape_stays side p shape e =
      let (found, live, _) = some_then (λ (node : Node). port_get (ports node.kind side) p.port) (node_at c p.node) shape e in
      shape_off c d id off side p (other p.node found live) ∙ e

  live_cases : (q : NodeId) (found : Node) → node_at d q ≡ Some found → (q ≡ id) × (found ≡ node) ⊎ (q ≢ id) × (node_at c q ≡ Some found)
  live_cases q found live =
      elim (id_cases q id) [
        | inl one ↦ inl (one, same_Some _ _ (sym live ∙ node_here q one))
        | inr two ↦ inr (two, sym (node_off c d id off q two) ∙ live)
      ]

  pub put_ok : IsArena d list
  put_ok =
      record {
        nodes = λ q found live. elim (live_cases q found live) [ inl here ↦ subst NodeOk (sym here.1) right | inr there ↦ ok.nodes q found there.1 ];
        listed = λ q found live. elim (live_cases q found live) [
          | inl here ↦ listed_here found.name (ap (λ (x : Node). x.name) here.1) ∙ ap Some (sym here.0)
          | inr there ↦ listed_other found.name (other_name q found there.1) ∙ ok.listed q found there.1
        ];
        names = λ name q listed. elim (name_cases name node.name) [
          | inl one ↦ (node, node_here q (same_Some _ _ (sym listed ∙ listed_here name one)), sym one)
          | inr two ↦
              let (found, live, is) = ok.names name q (sym (listed_other name two) ∙ listed) in
              (found, node_off c d id off q (other q found live) ∙ live, is)
        ];
        room = λ side p shape shaped. elim (id_cases p.node id) [
          | inl one ↦
              let here : finite.get d.cells p.node ≡ Some (bare node) = ap (finite.get d.cells) one ∙ cell_here in
              ap (λ o. is_some (then o (λ cell. kept_end (ends cell side) p.port))) here
              ∙ bare_room node side p.port shape (sym (ap (λ o. then (option_map (λ (cell : Cell). cell.node) o) (λ node. port_get (ports node.kind side) p.port)) here) ∙ shaped)
          | inr two ↦ ap is_some (slot_off c d id off side p two) ∙ ok.room side p shape (sym (shape_off c d id off side p two) ∙ shaped)
        ];
        forth = λ t s e. stays Outs s t (ok.forth t s (before Ins t s e).1);
        back = λ s t e. stays Ins t s (ok.back s t (before Outs s t e).1);
        wires = λ t s e. let (shape, leaves, enters) = ok.wires t s (before Ins t s e).1 in (shape, shape_stays Outs s shape leaves, shape_stays Ins t shape enters);
      }

  ids_put : ids_of d ≡ finite.insert (ids_of c) id node.name
  ids_put = finite.same_map id_total id_same _ _ (λ q. elim (id_cases q id) [
    | inl one ↦ live_id d q node (node_here q one) ∙ sym (get_inserted id_total id_same (ids_of c) id node.name q one)
    | inr two ↦ get_id d q ∙ ap (option_map (λ (node : Node). node.name)) (node_off c d id off q two) ∙ sym (get_id c q) ∙ sym (get_not_inserted id_total id_same (ids_of c) id node.name q two)
  ])

  node_same : (name : Name) (o : Option NodeId) → finite.get table name ≡ o → then o (λ q. option_map body_of (node_at d q)) ≡ then o (λ q. option_map body_of (node_at c q))
  node_same name None e = refl
  node_same name (Some q) e = let (found, live, _) = ok.names name q e in ap (option_map body_of) (node_off c d id off q (other q found live))

  nodes_put : (value_of d list).graph.nodes ≡ finite.insert (value_of c table).graph.nodes node.name (body_of node)
  nodes_put = finite.same_map name_total name_same _ _ (λ q. elim (name_cases q node.name) [
    | inl one ↦ get_node d list q ∙ ap (λ o. then o (λ q. option_map body_of (node_at d q))) (listed_here q one) ∙ ap (option_map body_of) (node_here id refl)
        ∙ sym (get_inserted name_total name_same (value_of c table).graph.nodes node.name (body_of node) q one)
    | inr two ↦ get_node d list q ∙ ap (λ o. then o (λ q. option_map body_of (node_at d q))) (listed_other q two) ∙ node_same q (finite.get table q) refl ∙ sym (get_node c table q)
        ∙ sym (get_not_inserted name_total name_same (value_of c table).graph.nodes node.name (body_of node) q two)
  ])

  feeder_same : (q : Port) (o : Option NodeId) → finite.get table q.node ≡ o → then o (λ k. option_map (port_by (ids_of d)) (end_at d Ins (record { node = k; port = q.port }))) ≡ then o (λ k. option_map (port_by (ids_of c)) (end_at c Ins (record { node = k; port = q.port })))
  feeder_same q None e = refl
  feeder_same q (Some k) e =
      let (found, live, _) = ok.names q.node k e in
      same_feeds c d (record { node = k; port = q.port }) (end_off c d id off Ins (record { node = k; port = q.port }) (other k found live))
      (λ s wired. let (from, is) = end_live c Outs s (record { node = k; port = q.port }) (ok.forth (record { node = k; port = q.port }) s wired) in port_off c d id off s (other s.node from is))

  feeders_put : (value_of d list).graph.feeders ≡ (value_of c table).graph.feeders
  feeders_put = finite.same_map port_total port_same _ _ (λ q. elim (name_cases q.node node.name) [
    | inl one ↦ get_feeder d list q ∙ ap (λ o. then o (λ k. option_map (port_by (ids_of d)) (end_at d Ins (record { node = k; port = q.port })))) (listed_here q.node one)
        ∙ ap (option_map (port_by (ids_of d))) (end_here Ins (record { node = id; port = q.port }) refl)
        ∙ sym (get_feeder c table q ∙ ap (λ o. then o (λ k. option_map (port_by (ids_of c)) (end_at c Ins (record { node = k; port = q.port })))) (ap (finite.get table) one ∙ fresh))
    | inr two ↦ get_feeder d list q ∙ ap (λ o. then o (λ k. option_map (port_by (ids_of d)) (end_at d Ins (record { node = k; port = q.port })))) (listed_other q.node two)
        ∙ feeder_same q (finite.get table q.node) refl ∙ sym (get_feeder c table q)
  ])

  slots_put : d.slots ≡ max c.slots (finite.len (finite.insert (ids_of c) id node.name))
  slots_put = put.slots ∙ ap (max c.slots) (sym (len-map_values (λ (cell : Cell). cell.node.name) d.cells) ∙ ap finite.len ids_put)

  pub put_value : value_of d list ≡ with_id (value_of c table) id node
  put_value = λ i. record { graph = record { nodes = nodes_put i; feeders = feeders_put i }; ids = ids_put i; slots = slots_put i }

-- The name goes into the table before the id is known

module _ (cells : finite.FinMap id_cmp Cell) (table : IdsByName) (id first : NodeId) (node : Node) (cell : Cell) (bare_cell : cell ≡ bare node) where
  found_put : finite.get (finite.insert cells id cell) id ≡ Some (bare node)
  found_put = get_inserted id_total id_same cells id cell id refl ∙ ap Some bare_cell

  pub lists_put : ListsAt (finite.insert table node.name first) (finite.get (finite.insert cells id cell) id)
  lists_put = subst (ListsAt (finite.insert table node.name first)) (sym found_put) (ap is_some (get_inserted name_total name_same table node.name first node.name refl))

  pub listed_put : listed_at (finite.insert table node.name first) id (finite.get (finite.insert cells id cell) id) ≡ finite.insert table node.name id
  listed_put = ap (listed_at (finite.insert table node.name first) id) found_put ∙ put_twice name_total name_same table node.name first id

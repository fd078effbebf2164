-- What every graph is.
use Rattle.std.proofs.Common.{refl, ◌≡◌, ◌<◌, ◌≤◌, Some, sym, ap, subst, ◌∙◌}
use Rattle.std.specs.Option.{option_map}
use Rattle.std.specs.FinMap as finite
use Rattle.port_types.specs.declared.side.Side.TheVariants.{Ins, Outs}
use Rattle.components.specs.declared.node.Node.{Node}
use Rattle.components.specs.Name.{Name, Port, IsName}
use Rattle.components.specs.Kind.{KindOk}
use Rattle.components.specs.Node.{Body, body_of}
use Rattle.components.specs.NamedGraph.{IsWire}
use Rattle.std.proofs.lemmas.Option.{same_Some}
use Rattle.graph_core.specs.declared.place.NodeId.{NodeId}
use Rattle.graph_core.specs.declared.cells.Cell.{Cell}
use Rattle.graph_core.specs.Names.{IdsByName}
use Rattle.graph_core.specs.Cells.{CellsValue}
use Rattle.graph_core.specs.GraphValue.{Denotes, IsGraph, port_by}
use Rattle.graph_core.specs.Inside.{node_at, end_at, ids_of, value_of, IsArena}
use Rattle.graph_core.proofs.Views.{get_id, get_node, get_feeder}
use Rattle.graph_core.proofs.Standing.{some_of, some_then, end_live, live_id, wire_behind, finds, one_id, one_port, name_known, node_found}
use Rattle.components.specs.Orders.{name_total, name_same}
use Rattle.graph_core.specs.Ids.{id_total, id_same}
use Rattle.graph_core.proofs.Counting.{len_keys, len_paired}
use Rattle.graph_core.proofs.Tables.{len-map_values}
use Rattle.graph_core.proofs.Link.{shape_there}

module _ (c : CellsValue) (table : IdsByName) (ok : IsArena c table) where
  -- behind a name stands a node
  record NodeBehind (name : Name) (body : Body) : Type 0 where
    id : NodeId
    node : Node
    live : node_at c id ≡ Some node
    is_name : node.name ≡ name
    is_body : body_of node ≡ body

  behind : (name : Name) (body : Body) → finite.get (value_of c table).graph.nodes name ≡ Some body → NodeBehind name body
  behind name body found =
      let (id, listed, at) = some_then (λ id. option_map body_of (node_at c id)) (finite.get table name) body (sym (get_node c table name) ∙ found) in
      let (node, live, is_body) = some_of body_of (node_at c id) body at in
      let (other, also, is_name) = ok.names name id listed in
      record { id = id; node = node; live = live; is_name = ap (λ (n : Node). n.name) (same_Some _ _ (sym live ∙ also)) ∙ is_name; is_body = is_body }

  named : (id : NodeId) (name : Name) → Denotes (value_of c table) id name → (node : Node) × (node_at c id ≡ Some node) × (node.name ≡ name)
  named id name denotes = some_of (λ (node : Node). node.name) (node_at c id) name (sym (get_id c id) ∙ denotes)

  wire : (target source : Port) → finite.get (value_of c table).graph.feeders target ≡ Some source → IsWire (value_of c table).graph source target
  wire target source found =
      let b = wire_behind c table ok target source (sym (get_feeder c table target) ∙ found) in
      let (shape, leaves, enters) = ok.wires b.to b.from b.wired in
      let (from, is_from, leaving) = shape_there c table ok Outs b.from shape leaves in
      let (to, is_to, entering) = shape_there c table ok Ins b.to shape enters in
      subst (λ s. IsWire (value_of c table).graph s target) b.is_from (subst (IsWire (value_of c table).graph (port_by (ids_of c) b.from)) b.is_to
      (record { from = from; to = to; shape = shape; is_from = is_from; is_to = is_to; leaves = leaving; enters = entering }))

  once : (p q source : Port) → finite.get (value_of c table).graph.feeders p ≡ Some source → finite.get (value_of c table).graph.feeders q ≡ Some source → p ≡ q
  once p q source first second =
      let a = wire_behind c table ok p source (sym (get_feeder c table p) ∙ first) in
      let b = wire_behind c table ok q source (sym (get_feeder c table q) ∙ second) in
      let out = ok.forth a.to a.from a.wired in
      let (node, live) = end_live c Outs a.from a.to out in
      let from = one_port c table ok a.from b.from node live (a.is_from ∙ sym b.is_from) in
      let to = same_Some _ _ (sym out ∙ ap (end_at c Outs) from ∙ ok.forth b.to b.from b.wired) in
      sym a.is_to ∙ ap (port_by (ids_of c)) to ∙ b.is_to

  listed_under : (id : NodeId) (name : Name) → Denotes (value_of c table) id name → finite.get table name ≡ Some id
  listed_under id name denotes = let (node, live, is) = named id name denotes in ap (finite.get table) (sym is) ∙ ok.listed id node live

  names_under : (name : Name) (id : NodeId) → finite.get table name ≡ Some id → Denotes (value_of c table) id name
  names_under name id listed = finds c table ok name (Some id) listed

  pub graph_is : ((id : NodeId) (cell : Cell) → finite.get c.cells id ≡ Some cell → id.index < c.slots) → finite.len c.cells ≤ c.slots → IsGraph (value_of c table)
  graph_is within room =
      record {
        graph = record {
          names = λ name body found. let b = behind name body found in subst IsName b.is_name (ok.nodes b.id b.node b.live).name;
          kinds = λ name body found. let b = behind name body found in subst (λ (z : Body). KindOk z.kind) b.is_body (ok.nodes b.id b.node b.live).kind;
          wires = wire;
          once = once;
        };
        denoted = λ id name denotes.
            let (node, live, is) = named id name denotes in
            (body_of node, ap (finite.get (value_of c table).graph.nodes) (sym is) ∙ node_found c table ok id node live);
        live = λ name body found. let b = behind name body found in (b.id, live_id c b.id b.node b.live ∙ ap Some b.is_name);
        alone = λ i j name a b.
            let (first, live, is) = named i name a in
            let (second, other, also) = named j name b in
            one_id c table ok i j first second live other (is ∙ sym also);
        within = λ id name denotes.
            let (node, live, _) = named id name denotes in
            let (cell, found, _) = some_of (λ (cell : Cell). cell.node) (finite.get c.cells id) node live in
            within id cell found;
        count = sym (len_paired id_total id_same name_total name_same (finite.len (ids_of c)) (ids_of c) table refl listed_under names_under)
            ∙ sym (len_keys name_total name_same (value_of c table).graph.nodes table (λ name. name_known c table ok name (finite.get table name) refl));
        room = subst (λ n. n ≤ c.slots) (sym (len-map_values (λ (cell : Cell). cell.node.name) c.cells)) room;
      }

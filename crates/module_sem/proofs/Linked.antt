-- A link within one graph, by names.
use Rattle.std.proofs.Common.{◌≡◌, ◌≢◌, ◌⊎◌, inl, inr, false, Option, Some, None, refl, sym, ap, ◌∙◌}
use Rattle.std.proofs.lemmas.Option.{none-some, same_Some}
use Rattle.std.specs.Prelude.{if◌then◌else◌, bytes_eq}
use Rattle.std.specs.Option.{option_map}
use Rattle.std.specs.FinMap as finite
use Rattle.components.specs.declared.kind.Kind.TheVariants.{Entry, Exit}
use Rattle.components.specs.Kind.{Shape, ins, outs}
use Rattle.components.specs.Lookups.{get_inserted, get_not_inserted, get_removed, get_not_removed}
use Rattle.components.specs.Name.{Name, Port, port_get}
use Rattle.components.specs.Node.{Body}
use Rattle.components.specs.NamedGraph.{NamedGraph, IsTyped, IsWire, with_node, with_wire, without_node}
use Rattle.components.specs.Numbered.{single_port}
use Rattle.components.specs.Orders.{name_total, name_same, port_total, port_same, name_cases, port_cases, same_bytes, other_bytes}
use Rattle.circuits.specs.Buffers.{first_port}
use Rattle.circuits.specs.GraphLookups.{get_linked_node, get_linked_feeder}
use Rattle.circuits.specs.Plug.{PlugLink}
use Rattle.circuits.specs.PluggedGraph.{buffer_body, buffer_kind, link_graph, linked_node, linked_source}
use Rattle.module_sem.specs.Linking.{CanHandOn, CanJoin}
use Rattle.module_sem.proofs.Ends.{HasBody, body_behind}
use Rattle.module_sem.proofs.Buffering.{exit_output, none_from, none_left, was_wire, wire_left}

module _ (g : NamedGraph) (typed : IsTyped g) (l : PlugLink) (join : CanJoin g l) where
  abbrev pub exit_body : HasBody (finite.get g.nodes l.exit) (Exit join.shape)
  exit_body = body_behind (finite.get g.nodes l.exit) (Exit join.shape) join.exit

  abbrev entry_body : HasBody (finite.get g.nodes l.entry) (Entry join.shape)
  entry_body = body_behind (finite.get g.nodes l.entry) (Entry join.shape) join.entry

  abbrev buffer : Body
  buffer = buffer_body exit_body.body

  -- an Exit is no Entry
  pub ends_differ : l.entry ≢ l.exit
  ends_differ same =
      let one : entry_body.body ≡ exit_body.body = same_Some _ _ (sym entry_body.is ∙ ap (finite.get g.nodes) same ∙ exit_body.is) in
      let kinds : Entry join.shape ≡ Exit join.shape = sym entry_body.of_kind ∙ ap (λ (b : Body). b.kind) one ∙ exit_body.of_kind in
      cc

  -- an Entry has no input and one output
  entry_input : (p source : Port) → finite.get g.feeders p ≡ Some source → p.node ≢ l.entry
  entry_input p source fed here =
      let wire = typed.wires p source fed in
      let same : wire.to ≡ entry_body.body = same_Some _ _ (sym wire.is_to ∙ ap (finite.get g.nodes) here ∙ entry_body.is) in
      none-some wire.shape (ap (λ k. port_get (ins k) p.port) (sym entry_body.of_kind) ∙ ap (λ (b : Body). port_get (ins b.kind) p.port) (sym same) ∙ wire.enters)

  entry_output : (p source : Port) → finite.get g.feeders p ≡ Some source → source.node ≡ l.entry → source ≡ first_port l.entry
  entry_output p source fed here =
      let wire = typed.wires p source fed in
      let same : wire.from ≡ entry_body.body = same_Some _ _ (sym wire.is_from ∙ ap (finite.get g.nodes) here ∙ entry_body.is) in
      let port : source.port ≡ 1 = single_port join.shape wire.shape source.port (ap (λ k. port_get (outs k) source.port) (sym entry_body.of_kind) ∙ ap (λ (b : Body). port_get (outs b.kind) source.port) (sym same) ∙ wire.leaves) in
      λ i. record { node = here i; port = port i }

  pub entry_feeds : (target : Port) × (finite.get g.feeders target ≡ Some (first_port l.entry))
  entry_feeds = typed.outputs (first_port l.entry) entry_body.body join.shape entry_body.is (ap (λ k. port_get (outs k) 1) entry_body.of_kind)

  -- with the Buffer in the place of the Exit
  abbrev pub between : NamedGraph
  between = with_node g l.exit buffer

  module _ (target : Port) (feeds : finite.get g.feeders target ≡ Some (first_port l.entry)) where
    -- what the Entry fed has the same inputs still
    abbrev EntersShape : Shape → Body → Type 0
    EntersShape shape body = port_get (ins body.kind) target.port ≡ Some shape

    fed_body : (body : Body) (shape : Shape) → finite.get g.nodes target.node ≡ Some body → EntersShape shape body
        → (to : Body) × (finite.get (without_node between l.entry).nodes target.node ≡ Some to) × EntersShape shape to
    fed_body body shape found enters =
        let stays = get_not_removed name_total name_same between.nodes l.entry target.node (entry_input target (first_port l.entry) feeds) in
        elim (name_cases target.node l.exit) [
          | inl one ↦
              let same : exit_body.body ≡ body = same_Some _ _ (sym exit_body.is ∙ ap (finite.get g.nodes) (sym one) ∙ found) in (
                buffer,
                stays ∙ get_inserted name_total name_same g.nodes l.exit buffer target.node one,
                ap (λ k. port_get (ins (buffer_kind k)) target.port) exit_body.of_kind ∙ ap (λ k. port_get (ins k) target.port) (sym exit_body.of_kind) ∙ ap (λ (b : Body). port_get (ins b.kind) target.port) same ∙ enters,
              )
          | inr two ↦ (body, stays ∙ get_not_inserted name_total name_same g.nodes l.exit buffer target.node two ∙ found, enters)
        ]

    wire_on : IsWire (without_node between l.entry) (first_port l.exit) target
    wire_on =
        let wire = typed.wires target (first_port l.entry) feeds in
        let same : wire.from ≡ entry_body.body = same_Some _ _ (sym wire.is_from ∙ entry_body.is) in
        let shapes : join.shape ≡ wire.shape = same_Some _ _ (ap (λ k. port_get (outs k) 1) (sym entry_body.of_kind) ∙ ap (λ (b : Body). port_get (outs b.kind) 1) (sym same) ∙ wire.leaves) in
        let (to, is_to, enters) = fed_body wire.to wire.shape wire.is_to wire.enters in
        record {
          from = buffer;
          to = to;
          shape = wire.shape;
          is_from = get_not_removed name_total name_same between.nodes l.entry l.exit (λ same. ends_differ (sym same)) ∙ get_inserted name_total name_same g.nodes l.exit buffer l.exit refl;
          is_to = is_to;
          leaves = ap (λ k. port_get (outs (buffer_kind k)) 1) exit_body.of_kind ∙ ap Some shapes;
          enters = enters;
        }

    -- the Buffer can feed it
    pub can_hand_on : CanHandOn between (first_port l.entry) (first_port l.exit)
    can_hand_on =
        record {
          target = target;
          feeds = feeds;
          can = record {
            wire = wire_on;
            target_free = none_from between l.entry target (first_port l.entry) feeds refl;
            source_free = λ p found.
                let (was, _, _) = was_wire between l.entry p (first_port l.exit) found in
                exit_output g typed l.exit exit_body.body exit_body.is join.shape exit_body.of_kind p (first_port l.exit) was refl;
          };
        }

    abbrev linked : NamedGraph
    linked = with_wire (without_node between l.entry) (first_port l.exit) target

    same_if_not : (n : Name) → bytes_eq n l.exit ≡ false → (o : Option Body) → o ≡ option_map (linked_node l n) o
    same_if_not n e None = refl
    same_if_not n e (Some body) = ap (λ b. Some (if b then buffer_body body else body)) (sym e)

    node_same : (n : Name) → finite.get linked.nodes n ≡ finite.get (link_graph l g).nodes n
    node_same n =
        elim (name_cases n l.entry) [
          | inl gone ↦
              ap (finite.get linked.nodes) gone ∙ get_removed name_total name_same between.nodes l.entry
              ∙ sym (get_linked_node l g n ∙ ap (λ b. if b then None else option_map (linked_node l n) (finite.get g.nodes n)) (same_bytes n l.entry gone))
          | inr stays ↦
              get_not_removed name_total name_same between.nodes l.entry n stays ∙ in_place n (name_cases n l.exit)
              ∙ sym (get_linked_node l g n ∙ ap (λ b. if b then None else option_map (linked_node l n) (finite.get g.nodes n)) (other_bytes n l.entry stays))
        ]
      where
        in_place : (n : Name) → (n ≡ l.exit) ⊎ (n ≢ l.exit) → finite.get between.nodes n ≡ option_map (linked_node l n) (finite.get g.nodes n)
        in_place n (inl one) =
            get_inserted name_total name_same g.nodes l.exit buffer n one
            ∙ sym (ap (option_map (linked_node l n)) (ap (finite.get g.nodes) one ∙ exit_body.is) ∙ ap (λ b. Some (if b then buffer else exit_body.body)) (same_bytes n l.exit one))
        in_place n (inr two) = get_not_inserted name_total name_same g.nodes l.exit buffer n two ∙ same_if_not n (other_bytes n l.exit two) (finite.get g.nodes n)

    feeder_same : (p : Port) → finite.get linked.feeders p ≡ finite.get (link_graph l g).feeders p
    feeder_same p =
        elim (port_cases p target) [
          | inl one ↦
              get_inserted port_total port_same (without_node between l.entry).feeders target (first_port l.exit) p one
              ∙ sym (get_linked_feeder l g p ∙ ap (λ q. option_map (linked_source l) (finite.get g.feeders q)) one ∙ ap (option_map (linked_source l)) feeds
              ∙ ap (λ b. Some (if b then record { node = l.exit; port = 1 } else first_port l.entry)) (same_bytes l.entry l.entry refl))
          | inr two ↦ get_not_inserted port_total port_same (without_node between l.entry).feeders target (first_port l.exit) p two ∙ elsewhere p two (finite.get g.feeders p) refl ∙ sym (get_linked_feeder l g p)
        ]
      where
        elsewhere : (p : Port) → p ≢ target → (o : Option Port) → finite.get g.feeders p ≡ o → finite.get (without_node between l.entry).feeders p ≡ option_map (linked_source l) (finite.get g.feeders p)
        elsewhere p other None e = none_left between l.entry p e ∙ ap (option_map (linked_source l)) (sym e)
        elsewhere p other (Some s) e =
            let away : s.node ≢ l.entry = λ here. other (typed.once p target (first_port l.entry) (e ∙ ap Some (entry_output p s e here)) feeds) in
            wire_left between l.entry p s e (entry_input p s e) away
            ∙ sym (ap (option_map (linked_source l)) e ∙ ap (λ b. Some (if b then record { node = l.exit; port = s.port } else s)) (other_bytes s.node l.entry away))

    -- and the link is made
    pub is_linked : linked ≡ link_graph l g
    is_linked =
        let nodes = finite.same_map name_total name_same linked.nodes (link_graph l g).nodes node_same in
        let feeders = finite.same_map port_total port_same linked.feeders (link_graph l g).feeders feeder_same in
        λ i. record { nodes = nodes i; feeders = feeders i }

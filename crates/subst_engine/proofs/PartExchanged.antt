-- To exchange the inner nodes of left for those of right, with the new wires, is to replace left by right.
use Rattle.std.proofs.Common.{◌≡◌, ◌≢◌, inl, inr, ◌<◌, Bool, true, false, List, [], ◌∷◌, length, get_or, map, Option, Some, None, refl, sym, ap, subst, ◌∙◌, arith}
use Rattle.std.specs.Prelude.{if◌then◌else◌, unwrap_or}
use Rattle.std.specs.List.{AllPairs}
use Rattle.std.specs.FinMap as finite
use Rattle.std.proofs.lemmas.Bool.{true≢false, false_from_ne_true}
use Rattle.std.proofs.lemmas.List.{get_or-map, length-map}
use Rattle.std.proofs.lemmas.List.Elements.{Contains-get_or}
use Rattle.std.proofs.lemmas.Option.{same_Some}
use Rattle.circuits.specs.Circuit.{kind_of_body}
use Rattle.circuits.specs.Laws.{ConsumerIsFed, ReplacedNodes, ReplacedGraphIsCircuit, ReplacedGraphIsTyped}
use Rattle.circuits.specs.Replacing.{In, is_inner}
use Rattle.circuits.specs.ReplacedGraph.{has_inner, replaced_graph}
use Rattle.components.specs.declared.node.Node.{Node}
use Rattle.components.specs.Lookups.{same_by}
use Rattle.components.specs.Name.{Name, Port}
use Rattle.components.specs.NamedGraph.{NamedGraph, IsTyped, CanWire}
use Rattle.components.specs.Node.{Body, NodeOk, body_of}
use Rattle.components.specs.Orders.{name_total, name_same, port_total, port_same}
use Rattle.graph_core.specs.declared.exchange.End.{End}
use Rattle.graph_core.specs.declared.place.NodeId.{NodeId}
use Rattle.graph_core.specs.Exchange.{CanExchange, end_ports, with_fresh, with_wires, without_nodes}
use Rattle.graph_core.specs.GraphValue.{GraphValue, IsGraph, Denotes, name_by}
use Rattle.subst_engine.specs.NewWires.{CanReplace}
use Rattle.subst_engine.specs.PartLists.{IsGone, AreGone, IsFresh, AreFresh, ServesSomeInput, AreNewWires}
use Rattle.components.specs.Wire.{IsWireOf}
use Rattle.subst_engine.proofs.Ends.{inner_there, found_body, no_body}
use Rattle.subst_engine.proofs.ManyChanges.{in_where_contained, each_in, all_in, in_mapped, mapped_in, inserted, get_away, get_here, look, nodes_added, same_feeders, target_of, source_of, wires_added, same_nodes, none_left, node_left, wire_left, is_left}
use Rattle.subst_engine.proofs.NewWires as wiring
use Rattle.subst_engine.proofs.NewWires.{own, through, new, old}

-- Pairs in a mapped list

pub pairs_mapped : {A B : Type 0} (f : A → B) (R : B → B → Type 0) (xs : List A) → AllPairs (λ a b. R (f a) (f b)) xs → AllPairs R (map f xs)
pairs_mapped f R [] pairs i j d less below = absurd (omega arith)
pairs_mapped f R (x ∷ xs) pairs i j d less below =
    let within : j < length (x ∷ xs) = omega (arith, length-map (x ∷ xs) f) in
    let first : i < length (x ∷ xs) = omega arith in
    subst (λ b. R (get_or (map f (x ∷ xs)) i d) b) (sym (get_or-map f (x ∷ xs) j x d within))
    (subst (λ a. R a (f (get_or (x ∷ xs) j x))) (sym (get_or-map f (x ∷ xs) i x d first)) (pairs i j x less within))

module _ (g : GraphValue) (left right : NamedGraph) (is : IsGraph g) (can : CanReplace g.graph left right)
    (fed : ConsumerIsFed) (nodes : ReplacedNodes) (circuit : ReplacedGraphIsCircuit) (typed : ReplacedGraphIsTyped)
    (gone : List NodeId) (fresh : List Node) (wires : List (End × End))
    (goes : AreGone g left gone) (comes : AreFresh right fresh) (joins : AreNewWires g left right gone fresh wires) where
  abbrev names : List Name
  names = map (name_by g.ids) gone

  abbrev pairs : List (Port × Port)
  pairs = map (end_ports g fresh) wires

  abbrev bare : NamedGraph
  bare = without_nodes g.graph names

  abbrev after : NamedGraph
  after = replaced_graph g.graph left right

  after_typed : IsTyped after
  after_typed = typed g.graph left right can.typed can.is_rule can.matches

  -- Nodes that go

  named : (id : NodeId) (name : Name) → Denotes g id name → name_by g.ids id ≡ name
  named id name denotes = ap (λ o. unwrap_or o []) denotes

  inner_goes : (n : Name) → has_inner left n ≡ true → In n names
  inner_goes n inner =
      let (part, there) = inner_there left n inner in
      let (body, found, same) = found_body (finite.get g.graph.nodes n) part.kind (can.matches.nodes n inner ∙ ap kind_of_body there) in
      let (id, denotes) = is.live n body found in
      subst (λ m. In m names) (named id n denotes)
      (in_mapped (name_by g.ids) gone id (in_where_contained id gone (goes.each id (n, denotes, inner))))

  goes_inner : (n : Name) → In n names → has_inner left n ≡ true
  goes_inner n there =
      let (id, within, is_name) = mapped_in (name_by g.ids) gone n there in
      let (name, denotes, inner) = each_in (IsGone g left) gone goes.are id within in
      subst (λ m. has_inner left m ≡ true) (sym (is_name ∙ named id name denotes)) inner

  away : (n : Name) → has_inner left n ≡ false → ¬ (In n names)
  away n outer there = true≢false (sym (goes_inner n there) ∙ outer)

  outer_left : (n : Name) → ¬ (In n names) → has_inner left n ≡ false
  outer_left n not_there = false_from_ne_true (has_inner left n) (λ inner. not_there (inner_goes n inner))

  -- Nodes that come

  abbrev fuller : NamedGraph
  fuller = with_fresh g gone fresh

  abbrev chosen : Bool → Bool → Name → Option Body
  chosen come go n = if come then finite.get right.nodes n else (if go then None else finite.get g.graph.nodes n)

  at_fuller : (n : Name) → finite.get fuller.nodes n ≡ finite.get (inserted name_total name_same (λ node. node.name) body_of bare.nodes fresh) n
  at_fuller n = ap (λ m. finite.get m n) (nodes_added bare fresh)

  comes_new : (n : Name) → has_inner right n ≡ true → finite.get fuller.nodes n ≡ finite.get right.nodes n
  comes_new n inner =
      let (node, there, is_name) = comes.each n inner in
      let within = in_where_contained node fresh there in
      let body = (each_in (IsFresh right) fresh comes.are node within).body in
      subst (λ m. finite.get fuller.nodes m ≡ finite.get right.nodes m) is_name
      (at_fuller node.name ∙ get_here name_total name_same (λ (x : Node). x.name) body_of bare.nodes fresh comes.once node within ∙ sym body)

  comes_none : (n : Name) → has_inner right n ≡ false → finite.get fuller.nodes n ≡ finite.get bare.nodes n
  comes_none n outer =
      at_fuller n ∙ get_away name_total name_same (λ (x : Node). x.name) body_of bare.nodes fresh n (λ node there is_name.
      true≢false (sym (subst (λ m. has_inner right m ≡ true) is_name (each_in (IsFresh right) fresh comes.are node there).inner) ∙ outer))

  at_bare : (n : Name) (go : Bool) → has_inner left n ≡ go → finite.get bare.nodes n ≡ (if go then None else finite.get g.graph.nodes n)
  at_bare n true inner = none_left g.graph names n (inl (inner_goes n inner))
  at_bare n false outer = node_left g.graph names n (away n outer)

  node_by : (n : Name) (come : Bool) → has_inner right n ≡ come → finite.get fuller.nodes n ≡ chosen come (has_inner left n) n
  node_by n true inner = comes_new n inner
  node_by n false outer = comes_none n outer ∙ at_bare n (has_inner left n) refl

  node_at : (n : Name) → finite.get fuller.nodes n ≡ finite.get after.nodes n
  node_at n = node_by n (has_inner right n) refl ∙ sym (nodes g.graph left right n)

  same_names : fuller.nodes ≡ after.nodes
  same_names = finite.same_map name_total name_same fuller.nodes after.nodes node_at

  -- Wires

  abbrev whole : NamedGraph
  whole = with_wires fuller pairs

  apart : AllPairs (λ (a b : Port × Port). target_of a ≢ target_of b) pairs
  apart = pairs_mapped (end_ports g fresh) (λ a b. a.1 ≢ b.1) wires joins.once

  pair_new : (w : Port × Port) → In w pairs → ServesSomeInput g.graph left right w
  pair_new w there =
      let (wire, within, is_pair) = mapped_in (end_ports g fresh) wires w there in
      subst (ServesSomeInput g.graph left right) (sym is_pair) (each_in (λ x. ServesSomeInput g.graph left right (end_ports g fresh x)) wires joins.are wire within)

  pair_wire : (w : Port × Port) → In w pairs → finite.get after.feeders w.1 ≡ Some w.0
  pair_wire w there = let (p, r, wired, is_new) = pair_new w there in wiring.new_is_wire g.graph left right can fed circuit p r w wired is_new

  at_whole : (p : Port) → finite.get whole.feeders p ≡ finite.get (inserted port_total port_same target_of source_of fuller.feeders pairs) p
  at_whole p = ap (λ m. finite.get m p) (wires_added fuller pairs)

  joined : (w : Port × Port) → In w pairs → finite.get whole.feeders w.1 ≡ Some w.0
  joined w there = at_whole w.1 ∙ get_here port_total port_same target_of source_of fuller.feeders pairs apart w there

  not_joined : (p : Port) → ((w : Port × Port) → In w pairs → target_of w ≢ p) → finite.get whole.feeders p ≡ finite.get bare.feeders p
  not_joined p none =
      at_whole p ∙ get_away port_total port_same target_of source_of fuller.feeders pairs p none ∙ ap (λ m. finite.get m p) (same_feeders bare fresh)

  bare_stays : (p s : Port) → finite.get bare.feeders p ≡ Some s → (finite.get g.graph.feeders p ≡ Some s) × (has_inner left p.node ≡ false) × (has_inner left s.node ≡ false)
  bare_stays p s wired =
      let stays = is_left g.graph names p s wired in
      (stays.fed, outer_left p.node stays.target, outer_left s.node stays.source)

  bare_wire : (p s : Port) → finite.get bare.feeders p ≡ Some s → finite.get after.feeders p ≡ Some s
  bare_wire p s wired = let (feeds, outer, before) = bare_stays p s wired in wiring.kept_is_wire g.graph left right can fed circuit p s feeds outer before

  to_after : (p s : Port) → finite.get whole.feeders p ≡ Some s → finite.get after.feeders p ≡ Some s
  to_after p s wired = elim (look port_total port_same target_of source_of p pairs) [
    | inl (w, there, same) ↦ subst (λ q. finite.get after.feeders q ≡ Some s) same (pair_wire w there ∙ sym (joined w there) ∙ subst (λ q. finite.get whole.feeders q ≡ Some s) (sym same) wired)
    | inr none ↦ bare_wire p s (sym (not_joined p none) ∙ wired)
  ]

  from_after : (p s : Port) → finite.get after.feeders p ≡ Some s → finite.get whole.feeders p ≡ Some s
  from_after p s wired = elim (look port_total port_same target_of source_of p pairs) [
    | inl (w, there, same) ↦ subst (λ q. finite.get whole.feeders q ≡ Some s) same (joined w there ∙ sym (pair_wire w there) ∙ subst (λ q. finite.get after.feeders q ≡ Some s) (sym same) wired)
    | inr none ↦ not_joined p none ∙ by none (wiring.origin g.graph left right can fed circuit p s wired)
  ]
    where
      by : ((w : Port × Port) → In w pairs → target_of w ≢ p) → wiring.Origin g.graph left right can fed circuit p s → finite.get bare.feeders p ≡ Some s
      by none (new x r into is_new) =
          let (wire, there, made) = joins.each x r into in
          let same : target_of (end_ports g fresh wire) ≡ p = same_Some _ _ (sym made.target ∙ is_new.target) in
          absurd (none (end_ports g fresh wire) (in_mapped (end_ports g fresh) wires wire (in_where_contained wire wires there)) same)
      by none (old feeds outer before) = wire_left g.graph names p s feeds (away p.node outer) (away s.node before)

  -- the exchange gives the replaced graph
  pub exchanged_is_replaced : with_wires (with_fresh g gone fresh) (map (end_ports g fresh) wires) ≡ after
  exchanged_is_replaced =
      let all_nodes = same_nodes fuller pairs ∙ same_names in
      let all_wires = same_by port_total port_same whole.feeders after.feeders to_after from_after in
      λ i. record { nodes = all_nodes i; feeders = all_wires i }

  -- The exchange can be made

  room : (node : Node) → In node fresh → finite.get bare.nodes node.name ≡ None
  room node there =
      let is_fresh = each_in (IsFresh right) fresh comes.are node there in
      none_left g.graph names node.name (elim (can.matches.new node.name node.kind (ap kind_of_body is_fresh.body) (sym (ap (λ o. is_inner (kind_of_body o)) is_fresh.body) ∙ is_fresh.inner)) [
        | inl none ↦ inr (no_body (finite.get g.graph.nodes node.name) none)
        | inr inner ↦ inl (inner_goes node.name inner)
      ])

  -- no wire between nodes that stay enters where a new wire does
  target_free : (w : Port × Port) → In w pairs → (s : Port) → finite.get bare.feeders w.1 ≡ Some s → ⊥
  target_free w there s wired =
      let (p, r, into, is_new) = pair_new w there in
      by p (wiring.enters g.graph left right can fed p r w.1 into is_new.target)
    where
      stays : (finite.get g.graph.feeders w.1 ≡ Some s) × (has_inner left w.1.node ≡ false) × (has_inner left s.node ≡ false)
      stays = bare_stays w.1 s wired

      by : (p : Port) → wiring.Enters g.graph left right can fed p w.1 → ⊥
      by p (own inner same) =
          let wire = can.typed.wires w.1 s stays.0 in
          let outer = wiring.not_new g.graph left right can w.1.node wire.to.kind (ap kind_of_body wire.is_to) stays.1 in
          true≢false (sym (subst (λ (q : Port). has_inner right q.node ≡ true) same inner) ∙ outer)
      by p (through a q exit before feeds) =
          let same : q ≡ s = same_Some q s (sym feeds ∙ stays.0) in
          true≢false (sym (wiring.before_exit g.graph left right can p q a before exit) ∙ subst (λ (x : Port). has_inner left x.node ≡ false) (sym same) stays.2)

  bare_none : (o : Option Port) (p : Port) → finite.get bare.feeders p ≡ o → ((s : Port) → finite.get bare.feeders p ≡ Some s → ⊥) → finite.get bare.feeders p ≡ None
  bare_none None p is_none never = is_none
  bare_none (Some s) p is_some never = absurd (never s is_some)

  can_wire : (w : Port × Port) → In w pairs → CanWire fuller w.0 w.1
  can_wire w there = record {
    wire = subst (λ m. IsWireOf (finite.get m) (λ (body : Body). body.kind) w.0 w.1) (sym same_names) (after_typed.wires w.1 w.0 (pair_wire w there));
    target_free = fuller_feeder w.1 ∙ bare_none (finite.get bare.feeders w.1) w.1 refl (target_free w there);
    source_free = λ p wired.
        let here : finite.get bare.feeders p ≡ Some w.0 = sym (fuller_feeder p) ∙ wired in
        let same : p ≡ w.1 = after_typed.once p w.1 w.0 (bare_wire p w.0 here) (pair_wire w there) in
        target_free w there w.0 (subst (λ q. finite.get bare.feeders q ≡ Some w.0) same here);
  }
    where
      fuller_feeder : (p : Port) → finite.get fuller.feeders p ≡ finite.get bare.feeders p
      fuller_feeder p = ap (λ m. finite.get m p) (same_feeders bare fresh)

  wire_pair : (wire : End × End) → In wire wires → In (end_ports g fresh wire) pairs
  wire_pair wire there = in_mapped (end_ports g fresh) wires wire there

  pub can_exchange : CanExchange g gone fresh wires
  can_exchange = record {
    live = all_in (λ id. (name : Name) × Denotes g id name) gone (λ id there. let (name, denotes, inner) = each_in (IsGone g left) gone goes.are id there in (name, denotes));
    distinct = goes.once;
    nodes = all_in NodeOk fresh (λ node there. (each_in (IsFresh right) fresh comes.are node there).ok);
    names = comes.once;
    free = all_in (λ node. finite.get bare.nodes node.name ≡ None) fresh room;
    ends = joins.ends;
    fit = all_in (λ wire. CanWire fuller (end_ports g fresh wire).0 (end_ports g fresh wire).1) wires (λ wire there. can_wire (end_ports g fresh wire) (wire_pair wire there));
    outputs = λ i j d less below same.
        let first = wire_pair _ (in_where_contained _ wires (Contains-get_or wires i d (omega arith))) in
        let second = wire_pair _ (in_where_contained _ wires (Contains-get_or wires j d below)) in
        joins.once i j d less below (after_typed.once _ _ _ (pair_wire _ first) (pair_wire _ second ∙ ap (λ x. Some x) (sym same)));
    inputs = joins.once;
  }

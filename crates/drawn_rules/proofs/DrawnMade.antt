-- A typed graph that is drawn can be made of its nodes and wires.
use Rattle.std.proofs.Common.{◌≡◌, ◌≢◌, ℕ, Bool, true, not, ◌&&◌, ◌==◌, refl, sym, ap, subst, ◌∙◌, List, [], ◌∷◌, Some, map, true≢false, arith}
use Rattle.std.specs.FinMap as finite
use Rattle.std.specs.List.{AllByRecursion, slice_get}
use Rattle.std.specs.Prelude.{◌<◌, length, unwrap_or}
use Rattle.std.specs.Option.{option_map}
use Rattle.std.proofs.lemmas.Option.{slice_get-map, slice_get_within}
use Rattle.std.proofs.lemmas.Bool.{and_parts, and_from, eq-eqb}
use Rattle.std.proofs.lemmas.List.Elements.{All-nil}
use Rattle.components.specs.declared.node.Node.{Node}
use Rattle.components.specs.Name.{Name, Port, IsName}
use Rattle.components.specs.Node.{NodeOk}
use Rattle.components.specs.NamedGraph.{NamedGraph, IsTyped, IsWire, no_graph}
use Rattle.graph_core.specs.declared.exchange.End.{End}
use Rattle.graph_core.specs.Exchange as exchange
use Rattle.graph_core.specs.Exchange.{fresh_name, end_port, end_ports}
use Rattle.graph_core.specs.GraphValue.{no_nodes}
use Rattle.circuits.specs.BufferRule.{bare}
use Rattle.circuits.specs.Replacing.{In, head, tail, NoneTwice}
use Rattle.circuit_plans.specs.Plans.{Out}
use Rattle.circuit_plans.specs.Drawing.{DrawnWire, Drawing, port_named, with_nodes, drawn}
use Rattle.circuit_plans.proofs.Namings.{mapped_in, one_node}
use Rattle.circuit_plans.proofs.Drawn.{Listed, Agree, node_comes, wires_keep_nodes, wire_comes}
use Rattle.subst_engine.specs.Making.{bare_node, rule_graph, IsListed, AllDiffer, CanMake}
use Rattle.drawn_rules.specs.Sides.{nodes_of, end_at, ends_of}
use Rattle.drawn_rules.proofs.Places.{Rises, rises_differ, rises_mapped}

abbrev pub ports_of : {N : Type 0} → (N → Name) → List (DrawnWire N) → List (Port × Port)
ports_of name wires = map (λ w. (port_named name w.source, port_named name w.target)) wires

abbrev fst : {A B : Type 0} → A × B → A
fst p = p.0

abbrev snd : {A B : Type 0} → A × B → B
snd p = p.1

map_twice : {A B C : Type 0} (f : A → B) (g : B → C) (xs : List A) → map g (map f xs) ≡ map (λ x. g (f x)) xs
map_twice f g [] = refl
map_twice f g (x ∷ xs) = ap (λ z. g (f x) ∷ z) (map_twice f g xs)

each_mapped : {A B : Type 0} (f : A → B) (P : B → Type 0) (xs : List A) → AllByRecursion P (map f xs) → AllByRecursion (λ x. P (f x)) xs
each_mapped f P [] h = tt
each_mapped f P (x ∷ xs) h = (h.0, each_mapped f P xs h.1)

-- Ports that differ, by a test

abbrev pub other_port : ℕ × ℕ → ℕ × ℕ → Bool
other_port p q = not (p.0 == q.0 && p.1 == q.1)

abbrev pub none_at : ℕ × ℕ → List (ℕ × ℕ) → Bool
none_at p [] = true
none_at p (q ∷ qs) = other_port p q && none_at p qs

abbrev pub ports_differ : List (ℕ × ℕ) → Bool
ports_differ [] = true
ports_differ (p ∷ ps) = none_at p ps && ports_differ ps

module _ {N : Type 0} (name : N → Name) (all : List N) (has : (n : N) → In n all) (once : NoneTwice (map name all)) (place : N → ℕ) where
  abbrev pub placed : Out N → ℕ × ℕ
  placed p = (place p.at, p.port)

  two_differ : (p q : Out N) → other_port (placed p) (placed q) ≡ true → port_named name p ≢ port_named name q
  two_differ p q test e =
      let node : p.at ≡ q.at = one_node name all once p.at q.at (has p.at) (has q.at) (ap (λ (z : Port). z.node) e) in
      let same : (place p.at == place q.at && p.port == q.port) ≡ true =
      and_from (place p.at == place q.at) (p.port == q.port) (eq-eqb (place p.at) (place q.at) (ap place node)) (eq-eqb p.port q.port (ap (λ (z : Port). z.port) e)) in
      true≢false (sym test ∙ ap not same)

  none_differ : (p : Out N) (ps : List (Out N)) → none_at (placed p) (map placed ps) ≡ true → AllByRecursion (λ y. port_named name p ≢ y) (map (port_named name) ps)
  none_differ p [] test = tt
  none_differ p (q ∷ qs) test =
      let parts = and_parts (other_port (placed p) (placed q)) (none_at (placed p) (map placed qs)) test in (two_differ p q parts.0, none_differ p qs parts.1)

  pub all_differ : (ps : List (Out N)) → ports_differ (map placed ps) ≡ true → AllDiffer (map (port_named name) ps)
  all_differ [] test = tt
  all_differ (p ∷ ps) test =
      let parts = and_parts (none_at (placed p) (map placed ps)) (ports_differ (map placed ps)) test in (none_differ p ps parts.0, all_differ ps parts.1)

-- and by a rank by which they rise

module _ {N : Type 0} (name : N → Name) (all : List N) (has : (n : N) → In n all) (once : NoneTwice (map name all)) where
  ports_apart : (p : Out N) (ps : List (Out N)) → AllByRecursion (λ q. p ≢ q) ps → AllByRecursion (λ y. port_named name p ≢ y) (map (port_named name) ps)
  ports_apart p [] h = tt
  ports_apart p (q ∷ qs) h = (
    (λ e.
        let node : p.at ≡ q.at = one_node name all once p.at q.at (has p.at) (has q.at) (ap (λ (z : Port). z.node) e) in
        h.0 (λ i. record { at = node i; port = ap (λ (z : Port). z.port) e i })),
    ports_apart p qs h.1,
  )

  pub named_differ : (ps : List (Out N)) → AllDiffer ps → AllDiffer (map (port_named name) ps)
  named_differ [] h = tt
  named_differ (p ∷ ps) h = (ports_apart p ps h.0, named_differ ps h.1)

  -- wires whose targets rise enter different inputs
  pub rising_targets : (rank : Out N → ℕ) (low high : ℕ) (wires : List (DrawnWire N)) → Rises (λ w. rank w.target) low wires high → AllDiffer (map (port_named name) (map (λ w. w.target) wires))
  rising_targets rank low high wires h =
      named_differ (map (λ (w : DrawnWire N). w.target) wires) (rises_differ rank low high (map (λ (w : DrawnWire N). w.target) wires) (rises_mapped (λ (w : DrawnWire N). w.target) rank low high wires h))

-- What is made of a drawing

module _ {N : Type 0} (d : Drawing N) (name : N → Name) (has : (n : N) → In n d.nodes) (once : NoneTwice (map name d.nodes)) where
  abbrev pub listed : N → Listed
  listed n = (name n, d.kind n)

  abbrev pub graph : NamedGraph
  graph = drawn d name

  abbrev pub wires : List (Port × Port)
  wires = ports_of name d.wires

  names_of : (ns : List N) → map (λ (z : Listed). z.0) (map listed ns) ≡ map name ns
  names_of ns = map_twice listed (λ (z : Listed). z.0) ns

  pub node_at : (n : N) → finite.get graph.nodes (name n) ≡ Some (bare (d.kind n))
  node_at n =
      ap (λ z. finite.get z (name n)) (wires_keep_nodes (with_nodes no_graph (map listed d.nodes)) wires)
      ∙ node_comes no_graph (map listed d.nodes) (listed n) (subst NoneTwice (sym (names_of d.nodes)) once) (mapped_in listed n d.nodes (has n))

  -- a wire that is listed feeds its target
  agrees : (p q : Port) (ws : List (DrawnWire N)) → AllByRecursion (λ y. p ≢ y) (map (port_named name) (map (λ w. w.target) ws)) → Agree p q (ports_of name ws)
  agrees p q [] h = tt
  agrees p q (w ∷ ws) h = ((λ e. absurd (h.0 e)), agrees p q ws h.1)

  abbrev pub named_wire : DrawnWire N → Port × Port
  named_wire w = (port_named name w.source, port_named name w.target)

  agree : (w : DrawnWire N) (ws : List (DrawnWire N)) → AllDiffer (map (port_named name) (map (λ v. v.target) ws)) → In w ws → Agree (port_named name w.target) (port_named name w.source) (ports_of name ws)
  agree w [] h i = elim i [ ]
  agree w (v ∷ ws) h (head e) = (
    (λ _. ap (λ (z : DrawnWire N). port_named name z.source) (sym e)),
    agrees (port_named name w.target) (port_named name w.source) ws (subst (λ (z : DrawnWire N). AllByRecursion (λ y. port_named name z.target ≢ y) (map (port_named name) (map (λ v. v.target) ws))) (sym e) h.0),
  )
  agree w (v ∷ ws) h (tail i) = (
    (λ e. absurd (apart v (map (λ z. z.target) ws) (mapped_in (λ (z : DrawnWire N). z.target) w ws i) h.0 (sym e))),
    agree w ws h.1 i,
  )
    where
      apart : (v : DrawnWire N) (ts : List (Out N)) → In w.target ts → AllByRecursion (λ y. port_named name v.target ≢ y) (map (port_named name) ts) → port_named name v.target ≢ port_named name w.target
      apart v [] i h e = elim i [ ]
      apart v (t ∷ ts) (head is) h e = h.0 (e ∙ ap (port_named name) is)
      apart v (t ∷ ts) (tail i) h e = apart v ts i h.1 e

  pub wire_fed : AllDiffer (map (port_named name) (map (λ w. w.target) d.wires)) → (w : DrawnWire N) → In w d.wires → finite.get graph.feeders (port_named name w.target) ≡ Some (port_named name w.source)
  wire_fed targets w i = wire_comes (with_nodes no_graph (map listed d.nodes)) wires (port_named name w.target) (port_named name w.source) (agree w d.wires targets i) (mapped_in named_wire w d.wires i)

module _ {N : Type 0} (d : Drawing N) (name : N → Name) (has : (n : N) → In n d.nodes) (once : NoneTwice (map name d.nodes)) (allowed : (n : N) → IsName (name n)) (typed : IsTyped (drawn d name))
    (targets : AllDiffer (map (port_named name) (map (λ w. w.target) d.wires))) where
  node_ok : (n : N) → NodeOk (bare_node (name n) (d.kind n))
  node_ok n =
      record {
        kind = typed.kinds (name n) (bare (d.kind n)) (node_at d name has once n);
        name = allowed n;
        kept = record { distinct = λ i j e before within. absurd (omega arith); unowned = All-nil _ };
      }

  nodes_ok : (ns : List N) → AllByRecursion NodeOk (map (λ n. bare_node (name n) (d.kind n)) ns)
  nodes_ok [] = tt
  nodes_ok (n ∷ ns) = (node_ok n, nodes_ok ns)

  -- both spellings of a graph with nodes
  same_nodes : (g : NamedGraph) (ns : List N) → exchange.with_nodes g (map (λ n. bare_node (name n) (d.kind n)) ns) ≡ with_nodes g (map (listed d name has once) ns)
  same_nodes g [] = refl
  same_nodes g (n ∷ ns) = same_nodes (with_nodes g (listed d name has once n ∷ [])) ns

  wire_there : (w : DrawnWire N) → In w d.wires → IsWire (drawn d name) (port_named name w.source) (port_named name w.target)
  wire_there w i = typed.wires (port_named name w.target) (port_named name w.source) (wire_fed d name has once targets w i)

  abbrev Fits : Port × Port → Type 0
  Fits wire = IsWire (exchange.with_nodes no_graph (nodes_of d name)) wire.0 wire.1

  fits : (w : DrawnWire N) → In w d.wires → Fits ((named_wire d name has once) w)
  fits w i =
      let h = wire_there w i in
      let same : (drawn d name).nodes ≡ (exchange.with_nodes no_graph (nodes_of d name)).nodes =
      wires_keep_nodes (with_nodes no_graph (map (listed d name has once) d.nodes)) (ports_of name d.wires) ∙ ap (λ (z : NamedGraph). z.nodes) (sym (same_nodes no_graph d.nodes)) in
      record {
        from = h.from;
        to = h.to;
        shape = h.shape;
        is_from = ap (λ z. finite.get z (name w.source.at)) (sym same) ∙ h.is_from;
        is_to = ap (λ z. finite.get z (name w.target.at)) (sym same) ∙ h.is_to;
        leaves = h.leaves;
        enters = h.enters;
      }

  fit_each : (ws : List (DrawnWire N)) → ((w : DrawnWire N) → In w ws → In w d.wires) → AllByRecursion Fits (ports_of name ws)
  fit_each [] within = tt
  fit_each (w ∷ ws) within = (fits w (within w (head refl)), fit_each ws (λ v i. within v (tail i)))

  differ_named : (ns : List N) → NoneTwice (map name ns) → AllDiffer (map (λ (node : Node). node.name) (map (λ n. bare_node (name n) (d.kind n)) ns))
  differ_named [] h = tt
  differ_named (n ∷ ns) h = (each n ns h.0, differ_named ns h.1)
    where
      each : (n : N) (rest : List N) → AllByRecursion (λ m. name n ≢ m) (map name rest) → AllByRecursion (λ y. name n ≢ y) (map (λ (node : Node). node.name) (map (λ k. bare_node (name k) (d.kind k)) rest))
      each n [] h = tt
      each n (k ∷ rest) h = (h.0, each n rest h.1)

  -- no two wires leave one output, since none enter one input
  sources_apart : (w : DrawnWire N) (ws : List (DrawnWire N)) → In w d.wires → ((v : DrawnWire N) → In v ws → In v d.wires) →
      AllByRecursion (λ y. port_named name w.target ≢ y) (map (port_named name) (map (λ v. v.target) ws)) → AllByRecursion (λ y. port_named name w.source ≢ y) (map (port_named name) (map (λ v. v.source) ws))
  sources_apart w [] i within h = tt
  sources_apart w (v ∷ ws) i within h = (
    (λ e. h.0 (typed.once (port_named name w.target) (port_named name v.target) (port_named name w.source)
        (wire_fed d name has once targets w i) (wire_fed d name has once targets v (within v (head refl)) ∙ ap Some (sym e)))),
    sources_apart w ws i (λ z j. within z (tail j)) h.1,
  )

  sources_differ : (ws : List (DrawnWire N)) → ((v : DrawnWire N) → In v ws → In v d.wires) → AllDiffer (map (port_named name) (map (λ v. v.target) ws)) → AllDiffer (map (port_named name) (map (λ v. v.source) ws))
  sources_differ [] within h = tt
  sources_differ (w ∷ ws) within h = (sources_apart w ws (within w (head refl)) (λ z j. within z (tail j)) h.0, sources_differ ws (λ z j. within z (tail j)) h.1)

  -- where each node has its place in the list
  module _ (place : N → ℕ) (stands : (n : N) → slice_get d.nodes (place n) ≡ Some n) where
    abbrev ends : List (End × End)
    ends = ends_of d place

    abbrev at_ends : End × End → Port × Port
    at_ends = end_ports no_nodes (nodes_of d name)

    named_at : (n : N) → fresh_name (nodes_of d name) (place n) ≡ name n
    named_at n =
        ap (λ o. unwrap_or (option_map (λ (node : Node). node.name) o) []) (slice_get-map (λ k. bare_node (name k) (d.kind k)) d.nodes (place n) ∙ ap (option_map (λ k. bare_node (name k) (d.kind k))) (stands n))

    port_at : (p : Out N) → end_port no_nodes (nodes_of d name) (end_at place p) ≡ port_named name p
    port_at p = λ i. record { node = named_at p.at i; port = p.port }

    are_at : (ws : List (DrawnWire N)) → map at_ends (map (λ w. (end_at place w.source, end_at place w.target)) ws) ≡ ports_of name ws
    are_at [] = refl
    are_at (w ∷ ws) = λ i. (port_at w.source i, port_at w.target i) ∷ are_at ws i

    are : map at_ends ends ≡ ports_of name d.wires
    are = are_at d.wires

    place_within : (n : N) → place n < length (nodes_of d name)
    place_within n = slice_get_within (nodes_of d name) (place n) (bare_node (name n) (d.kind n)) (slice_get-map (λ k. bare_node (name k) (d.kind k)) d.nodes (place n) ∙ ap (option_map (λ k. bare_node (name k) (d.kind k))) (stands n))

    listed_at : (ws : List (DrawnWire N)) → AllByRecursion (λ (wire : End × End). IsListed (nodes_of d name) wire.0 × IsListed (nodes_of d name) wire.1) (map (λ w. (end_at place w.source, end_at place w.target)) ws)
    listed_at [] = tt
    listed_at (w ∷ ws) = ((place_within w.source.at, place_within w.target.at), listed_at ws)

    pub can_make : CanMake (nodes_of d name) ends
    can_make =
        record {
          are_ok = nodes_ok d.nodes;
          names = differ_named d.nodes once;
          ends = listed_at d.wires;
          fit = each_mapped at_ends Fits ends (subst (AllByRecursion Fits) (sym are) (fit_each d.wires (λ w i. i)));
          outputs = subst AllDiffer (sym (sym (map_twice at_ends fst ends) ∙ ap (map fst) are ∙ map_twice (named_wire d name has once) fst d.wires ∙ sym (map_twice (λ (w : DrawnWire N). w.source) (port_named name) d.wires))) (sources_differ d.wires (λ w i. i) targets);
          inputs = subst AllDiffer (sym (sym (map_twice at_ends snd ends) ∙ ap (map snd) are ∙ map_twice (named_wire d name has once) snd d.wires ∙ sym (map_twice (λ (w : DrawnWire N). w.target) (port_named name) d.wires))) targets;
        }

    pub made_is : rule_graph (nodes_of d name) ends ≡ drawn d name
    made_is = λ i. exchange.with_wires (same_nodes no_graph d.nodes i) (are i)

-- The graph that draws a plan has the plan's circuit.
use Rattle.std.proofs.Common.{◌≡◌, ◌≢◌, inl, inr, ℕ, refl, sym, ap, subst, ◌∙◌, map, List, [], ◌∷◌, Option, Some, None}
use Rattle.std.specs.FinMap as finite
use Rattle.std.specs.List.{AllByRecursion}
use Rattle.std.proofs.lemmas.Option.{none-some, same_Some}
use Rattle.components.specs.declared.kind.Kind.{Kind}
use Rattle.components.specs.Name.{Name, Port, name_cmp, port_cmp}
use Rattle.components.specs.NamedGraph.{NamedGraph, no_graph}
use Rattle.components.specs.Lookups.{get_inserted, get_not_inserted}
use Rattle.components.specs.Orders.{name_total, name_same, port_total, port_same, port_cases}
use Rattle.circuits.specs.Circuit.{circuit_of, kind_of_body}
use Rattle.circuits.specs.BufferRule.{bare}
use Rattle.circuits.specs.Replacing.{In, head, tail, NoneTwice}
use Rattle.circuit_plans.specs.Plans.{Out, Plan, Naming, kind_by, out_by, feeder_by, built}
use Rattle.circuit_plans.specs.Drawing.{DrawnWire, Drawing, port_named, with_nodes, with_wires, drawn}
use Rattle.circuit_plans.proofs.Namings.{mapped_in}
use Rattle.circuit_plans.proofs.PlanTyped.{ForSome}

-- Nodes

abbrev pub Listed : Type 0
Listed = Name × Kind

-- nodes that are added to a graph
abbrev pub Others : Name → List Listed → Type 0
Others n nodes = AllByRecursion (λ (node : Listed). n ≢ node.0) nodes

node_stays : (g : NamedGraph) (nodes : List Listed) (n : Name) → Others n nodes → finite.get (with_nodes g nodes).nodes n ≡ finite.get g.nodes n
node_stays g [] n away = refl
node_stays g (node ∷ nodes) n away =
    node_stays (with_nodes g (node ∷ [])) nodes n away.1 ∙ get_not_inserted name_total name_same g.nodes node.0 (bare node.1) n away.0

pub node_comes : (g : NamedGraph) (nodes : List Listed) (node : Listed) → NoneTwice (map (λ (z : Listed). z.0) nodes) → In node nodes → finite.get (with_nodes g nodes).nodes node.0 ≡ Some (bare node.1)
node_comes g [] node once i = elim i [ ]
node_comes g (first ∷ nodes) node once (head e) =
    ap (λ (z : Listed). finite.get (with_nodes g (first ∷ nodes)).nodes z.0) e
    ∙ node_stays (with_nodes g (first ∷ [])) nodes first.0 (unmapped first.0 nodes once.0)
    ∙ get_inserted name_total name_same g.nodes first.0 (bare first.1) first.0 refl ∙ ap (λ (z : Listed). Some (bare z.1)) (sym e)
  where
    unmapped : (n : Name) (rest : List Listed) → AllByRecursion (λ m. n ≢ m) (map (λ (z : Listed). z.0) rest) → Others n rest
    unmapped n [] h = tt
    unmapped n (z ∷ rest) h = (h.0, unmapped n rest h.1)
node_comes g (first ∷ nodes) node once (tail i) = node_comes (with_nodes g (first ∷ [])) nodes node once.1 i

-- Wires

pub wires_keep_nodes : (g : NamedGraph) (wires : List (Port × Port)) → (with_wires g wires).nodes ≡ g.nodes
wires_keep_nodes g [] = refl
wires_keep_nodes g (w ∷ wires) = wires_keep_nodes (with_wires g (w ∷ [])) wires

pub nodes_keep_wires : (g : NamedGraph) (nodes : List Listed) → (with_nodes g nodes).feeders ≡ g.feeders
nodes_keep_wires g [] = refl
nodes_keep_wires g (node ∷ nodes) = nodes_keep_wires (with_nodes g (node ∷ [])) nodes

wire_stays : (g : NamedGraph) (wires : List (Port × Port)) (p : Port) → AllByRecursion (λ (w : Port × Port). p ≢ w.1) wires → finite.get (with_wires g wires).feeders p ≡ finite.get g.feeders p
wire_stays g [] p away = refl
wire_stays g (w ∷ wires) p away =
    wire_stays (with_wires g (w ∷ [])) wires p away.1 ∙ get_not_inserted port_total port_same g.feeders w.1 w.0 p away.0

-- an input that each of these wires feeds from one output, if at all
abbrev pub Agree : Port → Port → List (Port × Port) → Type 0
Agree p q wires = AllByRecursion (λ (w : Port × Port). p ≡ w.1 → w.0 ≡ q) wires

wire_once : (g : NamedGraph) (wires : List (Port × Port)) (p q : Port) → Agree p q wires → finite.get g.feeders p ≡ Some q → finite.get (with_wires g wires).feeders p ≡ Some q
wire_once g [] p q agree fed = fed
wire_once g (w ∷ wires) p q agree fed =
    wire_once (with_wires g (w ∷ [])) wires p q agree.1
    (elim (port_cases p w.1) [
      | inl is ↦ get_inserted port_total port_same g.feeders w.1 w.0 p is ∙ ap Some (agree.0 is)
      | inr other ↦ get_not_inserted port_total port_same g.feeders w.1 w.0 p other ∙ fed
    ])

pub wire_comes : (g : NamedGraph) (wires : List (Port × Port)) (p q : Port) → Agree p q wires → In (q, p) wires → finite.get (with_wires g wires).feeders p ≡ Some q
wire_comes g [] p q agree i = elim i [ ]
wire_comes g (w ∷ wires) p q agree (head e) =
    wire_once (with_wires g (w ∷ [])) wires p q agree.1
    (get_inserted port_total port_same g.feeders w.1 w.0 p (ap (λ (z : Port × Port). z.1) e) ∙ ap (λ (z : Port × Port). Some z.0) (sym e))
wire_comes g (w ∷ wires) p q agree (tail i) = wire_comes (with_wires g (w ∷ [])) wires p q agree.1 i

-- the wires that are listed are those of the plan, and no others
pub record Draws {N : Type 0} (d : Drawing N) (c : Plan N) : Type 0 where
  pub kinds : (n : N) → d.kind n ≡ c.kind n
  pub all : (n : N) → In n d.nodes
  pub sound : AllByRecursion (λ (w : DrawnWire N). c.source w.target.at w.target.port ≡ Some w.source) d.wires
  pub complete : (n : N) (i : ℕ) → ForSome (c.source n i) (λ q. In (record { source = q; target = record { at = n; port = i } }) d.wires)

module _ {N : Type 0} (d : Drawing N) (c : Plan N) (draws : Draws d c) (x : Naming N) (once : NoneTwice (map x.name d.nodes)) where
  abbrev nodes : List Listed
  nodes = map (λ n. (x.name n, d.kind n)) d.nodes

  abbrev named_wire : DrawnWire N → Port × Port
  named_wire w = (port_named x.name w.source, port_named x.name w.target)

  abbrev wires : List (Port × Port)
  wires = map named_wire d.wires

  abbrev graph : NamedGraph
  graph = drawn d x.name

  names_of : (ns : List N) → map (λ (z : Listed). z.0) (map (λ n. (x.name n, d.kind n)) ns) ≡ map x.name ns
  names_of [] = refl
  names_of (n ∷ ns) = ap (λ z. x.name n ∷ z) (names_of ns)

  pub node_at : (n : N) → finite.get graph.nodes (x.name n) ≡ Some (bare (c.kind n))
  node_at n =
      ap (λ z. finite.get z (x.name n)) (wires_keep_nodes (with_nodes no_graph nodes) wires)
      ∙ node_comes no_graph nodes (x.name n, d.kind n) (subst NoneTwice (sym (names_of d.nodes)) once) (mapped_in (λ k. (x.name k, d.kind k)) n d.nodes (draws.all n))
      ∙ ap (λ k. Some (bare k)) (draws.kinds n)

  others : (m : Name) → x.which m ≡ None → (ns : List N) → Others m (map (λ n. (x.name n, d.kind n)) ns)
  others m none [] = tt
  others m none (n ∷ ns) = ((λ is. none-some n (sym none ∙ ap x.which is ∙ x.known n)), others m none ns)

  no_node : (m : Name) → x.which m ≡ None → finite.get graph.nodes m ≡ None
  no_node m none =
      ap (λ z. finite.get z m) (wires_keep_nodes (with_nodes no_graph nodes) wires)
      ∙ node_stays no_graph nodes m (others m none d.nodes) ∙ finite.get-empty name_cmp m

  kind_is : (m : Name) (o : Option N) → x.which m ≡ o → kind_of_body (finite.get graph.nodes m) ≡ kind_by c o
  kind_is m None e = ap kind_of_body (no_node m e)
  kind_is m (Some n) e = ap (λ z. kind_of_body (finite.get graph.nodes z)) (x.named m n e) ∙ ap kind_of_body (node_at n)

  no_wires : (p : Port) → finite.get (with_nodes no_graph nodes).feeders p ≡ None
  no_wires p = ap (λ z. finite.get z p) (nodes_keep_wires no_graph nodes) ∙ finite.get-empty port_cmp p

  -- a port of a named node is that of a wire's target where both are
  same_target : (n : N) (i : ℕ) (w : DrawnWire N) → record { node = x.name n; port = i } ≡ port_named x.name w.target → record { at = n; port = i } ≡ w.target
  same_target n i w e =
      let node : n ≡ w.target.at = same_Some n w.target.at (sym (x.known n) ∙ ap (λ (p : Port). x.which p.node) e ∙ x.known w.target.at) in
      λ j. record { at = node j; port = ap (λ (p : Port). p.port) e j }

  agree : (n : N) (i : ℕ) (q : Out N) → c.source n i ≡ Some q → (ws : List (DrawnWire N)) → AllByRecursion (λ (w : DrawnWire N). c.source w.target.at w.target.port ≡ Some w.source) ws →
      Agree (record { node = x.name n; port = i }) (port_named x.name q) (map named_wire ws)
  agree n i q fed [] sound = tt
  agree n i q fed (w ∷ ws) sound = (
    (λ e. ap (port_named x.name) (same_Some w.source q (sym sound.0 ∙ ap (λ (t : Out N). c.source t.at t.port) (sym (same_target n i w e)) ∙ fed))),
    agree n i q fed ws sound.1,
  )

  unfed : (n : N) (i : ℕ) → c.source n i ≡ None → (ws : List (DrawnWire N)) → AllByRecursion (λ (w : DrawnWire N). c.source w.target.at w.target.port ≡ Some w.source) ws →
      AllByRecursion (λ (w : Port × Port). record { node = x.name n; port = i } ≢ w.1) (map named_wire ws)
  unfed n i none [] sound = tt
  unfed n i none (w ∷ ws) sound = (
    (λ e. none-some w.source (sym none ∙ ap (λ (t : Out N). c.source t.at t.port) (same_target n i w e) ∙ sound.0)),
    unfed n i none ws sound.1,
  )

  away : (m : Name) (i : ℕ) → x.which m ≡ None → (ws : List (DrawnWire N)) → AllByRecursion (λ (w : Port × Port). record { node = m; port = i } ≢ w.1) (map named_wire ws)
  away m i none [] = tt
  away m i none (w ∷ ws) = (
    (λ e. none-some w.target.at (sym none ∙ ap (λ (p : Port). x.which p.node) e ∙ x.known w.target.at)),
    away m i none ws,
  )

  fed_at : (n : N) (i : ℕ) (o : Option (Out N)) → c.source n i ≡ o → ForSome o (λ q. In (record { source = q; target = record { at = n; port = i } }) d.wires) →
      finite.get graph.feeders (record { node = x.name n; port = i }) ≡ out_by x o
  fed_at n i None e h = wire_stays (with_nodes no_graph nodes) wires (record { node = x.name n; port = i }) (unfed n i e d.wires draws.sound) ∙ no_wires (record { node = x.name n; port = i })
  fed_at n i (Some q) e h =
      wire_comes (with_nodes no_graph nodes) wires (record { node = x.name n; port = i }) (port_named x.name q) (agree n i q e d.wires draws.sound)
      (mapped_in named_wire (record { source = q; target = record { at = n; port = i } }) d.wires h)

  pub wire_at : (n : N) (i : ℕ) → finite.get graph.feeders (record { node = x.name n; port = i }) ≡ out_by x (c.source n i)
  wire_at n i = fed_at n i (c.source n i) refl (draws.complete n i)

  feeder_is : (p : Port) (o : Option N) → x.which p.node ≡ o → finite.get graph.feeders p ≡ feeder_by c x o p.port
  feeder_is p None e = wire_stays (with_nodes no_graph nodes) wires p (away p.node p.port e d.wires) ∙ no_wires p
  feeder_is p (Some n) e = ap (λ z. finite.get graph.feeders (record { node = z; port = p.port })) (x.named p.node n e) ∙ wire_at n p.port

  -- the circuit of the graph is that of the plan
  pub drawn_is : circuit_of graph ≡ built c x
  drawn_is = λ j. record { kind_at = λ m. kind_is m (x.which m) refl j; feeder = λ p. feeder_is p (x.which p.node) refl j }

-- The new wires, gathered by the indices of right and the numbers of inputs.
use Rattle.std.proofs.Common.{◌≡◌, ◌⊎◌, inl, inr, ℕ, ◌+◌, ◌<◌, ◌≤◌, true, List, [], ◌∷◌, ◌++◌, length, Option, Some, None, IsSome, is_some, refl, sym, ap, subst, ◌∙◌, true≢false, arith}
use Rattle.std.specs.FinMap as map
use Rattle.std.specs.List.{Contains}
use Rattle.std.specs.Prelude.{unwrap_or}
use Rattle.std.proofs.lemmas.Bool.{cases_eq}
use Rattle.std.proofs.lemmas.List.Elements.{All-contains}
use Rattle.std.proofs.lemmas.Option.{same_Some}
use Rattle.port_types.specs.declared.side.Side.TheVariants.{Ins}
use Rattle.components.specs.declared.kind.Kind.{Kind}
use Rattle.components.specs.declared.node.Node.{Node}
use Rattle.components.specs.Kind.{ins}
use Rattle.components.specs.Name.{Name, Port, port_get}
use Rattle.components.specs.NamedGraph.{NamedGraph}
use Rattle.components.specs.Numbered.{within, there}
use Rattle.circuits.specs.Circuit.{circuit_of, kind_of_body}
use Rattle.circuits.specs.Laws.{ConsumerIsFed}
use Rattle.circuits.specs.ReplacedGraph.{has_inner}
use Rattle.graph_core.specs.declared.exchange.End.{End}
use Rattle.graph_core.specs.declared.exchange.End.TheVariants.{Old, Fresh}
use Rattle.graph_core.specs.declared.place.NodeId.{NodeId}
use Rattle.graph_core.specs.Exchange.{IsAtNode, end_ports}
use Rattle.graph_core.specs.GraphValue.{GraphValue, IsGraph, Denotes, name_by, port_of}
use Rattle.graph_core.specs.Open.{port_at}
use Rattle.graph_core.specs.Place.{id_of, index_of}
use Rattle.graph_core.specs.Wiring.{HasPort}
use Rattle.subst_engine.specs.EndPorts.{count_inputs}
use Rattle.subst_engine.specs.NewWires.{CanReplace}
use Rattle.subst_engine.specs.PartLists.{AreGone, AreNewWires, IsAtPlace, IsInputAt, IsGone, IsInputBelow, ServesSomeInput, IsWireFor, TargetsDiffer, WiresBelow, WiresTo}
use Rattle.subst_engine.proofs.Ends.{found_body}
use Rattle.subst_engine.proofs.Gathering.{gather_none, gather_one}
use Rattle.subst_engine.proofs.ManyChanges.{all_in, contained_where_in}
use Rattle.subst_engine.proofs.NewWires.{one_target}

-- The inputs of a node

some_port : {A : Type 0} (o : Option A) → is_some o ≡ true → (x : A) × (o ≡ Some x)
some_port None is = absurd (true≢false (sym is))
some_port (Some x) is = (x, refl)

-- each number up to the count is that of an input
pub input_there : (g : GraphValue) (id : NodeId) (port count : ℕ) → count ≡ count_inputs ((circuit_of g.graph).kind_at (name_by g.ids id)) → 1 ≤ port → port ≤ count → HasPort g.graph Ins (port_of g (port_at id port))
input_there g id port count counted some few = by ((circuit_of g.graph).kind_at (name_by g.ids id)) refl
  where
    by : (o : Option Kind) → (circuit_of g.graph).kind_at (name_by g.ids id) ≡ o → HasPort g.graph Ins (port_of g (port_at id port))
    by None is = absurd (let none : count ≡ 0 = counted ∙ ap count_inputs is in omega arith)
    by (Some kind) is =
        let (body, found, same) = found_body (map.get g.graph.nodes (name_by g.ids id)) kind is in
        let within_count : port ≤ length (ins kind) = subst (λ n. port ≤ n) (counted ∙ ap count_inputs is) few in
        let (shape, at) = some_port (port_get (ins kind) port) (there (ins kind) port (record { some = some; few = within_count })) in
        (shape, (body, found, subst (λ k. port_get (ins k) port ≡ Some shape) (sym same) at))

-- and each input on a wire has such a number
pub input_within : (g : GraphValue) → IsGraph g → (p q : Port) → map.get g.graph.feeders p ≡ Some q → (1 ≤ p.port) × (p.port ≤ count_inputs ((circuit_of g.graph).kind_at p.node))
input_within g is p q fed =
    let wire = is.graph.wires p q fed in
    let number = within (ins wire.to.kind) p.port (ap is_some wire.enters) in
    (number.some, subst (λ n. p.port ≤ n) (ap count_inputs (sym (ap kind_of_body wire.is_to))) number.few)

module _ (g : GraphValue) (left : NamedGraph) (right : GraphValue) (is : IsGraph right) (fresh : List Node) where
  abbrev Gives : Port → End × End → Type 0
  Gives = IsWireFor g left right.graph fresh

  abbrev Differ : End × End → End × End → Type 0
  Differ = TargetsDiffer g fresh

  abbrev Below : ℕ → Port → Type 0
  Below index p = IsInputBelow right index p

  abbrev To : ℕ → ℕ → Port → Type 0
  To index bound p = IsInputBelow right index p ⊎ IsInputAt right index bound p

  below_more : (index : ℕ) (p : Port) → Below index p → Below (index + 1) p
  below_more index p input = record { index = input.index; below = let below = input.below in omega arith; denotes = input.denotes; before = input.before; fed = input.fed }

  at_index : (index : ℕ) (p : Port) → Below (index + 1) p → Below index p ⊎ Denotes right (id_of index) p.node
  at_index index p input = elim (cases_eq input.index index) [
    | inl same ↦ inr (subst (λ i. Denotes right (id_of i) p.node) same input.denotes)
    | inr other ↦ inl (record { index = input.index; below = let below = input.below in omega arith; denotes = input.denotes; before = input.before; fed = input.fed })
  ]

  module _ (index : ℕ) (wires : List (End × End)) where
    -- the inputs of a node, from the first on
    pub first_wires : WiresBelow g left right fresh index wires → WiresTo g left right fresh index 1 wires
    first_wires so_far = gather_none Gives Differ (Below index) (To index 1) (λ p input. inl input) wires so_far (λ p input. elim input [
      | inl before ↦ before
      | inr here ↦ absurd (let below = here.below in let some = (input_within right is p here.before here.fed).0 in omega arith)
    ])

    -- one input more
    pub one_more_wire : (can : CanReplace g.graph left right.graph) (law : ConsumerIsFed) (port : ℕ) (p : Port) (wire : End × End) → WiresTo g left right fresh index port wires →
        Denotes right (id_of index) p.node → p.port ≡ port → Gives p wire → WiresTo g left right fresh index (port + 1) (wires ++ wire ∷ [])
    one_more_wire can law port p wire so_far denotes numbered gives = gather_one Gives Differ (To index port) (To index (port + 1))
        (λ s input. elim input [ inl before ↦ inl before | inr here ↦ inr (record { denotes = here.denotes; below = let below = here.below in omega arith; before = here.before; fed = here.fed }) ])
        wires so_far p wire
        (inr (record { denotes = denotes; below = omega arith; before = gives.before; fed = gives.fed })) gives back apart
      where
        back : (s : Port) → To index (port + 1) s → To index port s ⊎ (s ≡ p)
        back s (inl before) = inl (inl before)
        back s (inr here) = elim (cases_eq s.port port) [
          | inl same ↦
              let node : s.node ≡ p.node = same_Some s.node p.node (sym here.denotes ∙ denotes) in
              let number : s.port ≡ p.port = same ∙ sym numbered in
              inr (λ i. record { node = node i; port = number i })
          | inr other ↦ inl (inr (record { denotes = here.denotes; below = let below = here.below in omega arith; before = here.before; fed = here.fed }))
        ]

        not_yet : ¬ (To index port p)
        not_yet (inl before) =
            let same : before.index ≡ index = ap index_of (is.alone (id_of before.index) (id_of index) p.node before.denotes denotes) in
            let below = before.below in omega arith
        not_yet (inr here) = let below = here.below in omega arith

        apart : (s : Port) (x : End × End) → To index port s → Gives s x → Differ x wire
        apart s x done given same =
            let one : s ≡ p = one_target g.graph left right.graph can law s given.before p gives.before (end_ports g fresh wire).1 given.fed gives.fed (given.is_new.target ∙ ap (λ t. Some t) same) gives.is_new.target in
            not_yet (subst (To index port) one done)

    -- all inputs of the node
    pub node_wired : (bound count : ℕ) (name : Name) → Denotes right (id_of index) name → count ≡ count_inputs ((circuit_of right.graph).kind_at name) → count < bound →
        WiresTo g left right fresh index bound wires → WiresBelow g left right fresh (index + 1) wires
    node_wired bound count name denotes counted last so_far = gather_none Gives Differ (To index bound) (Below (index + 1)) forth wires so_far back
      where
        forth : (p : Port) → To index bound p → Below (index + 1) p
        forth p (inl before) = below_more index p before
        forth p (inr here) = record { index = index; below = omega arith; denotes = here.denotes; before = here.before; fed = here.fed }

        back : (p : Port) → Below (index + 1) p → To index bound p
        back p input = elim (at_index index p input) [
          | inl before ↦ inl before
          | inr here ↦
              let node : p.node ≡ name = same_Some p.node name (sym here ∙ denotes) in
              let few : p.port ≤ count = subst (λ n. p.port ≤ n) (ap (λ n. count_inputs ((circuit_of right.graph).kind_at n)) node ∙ sym counted) (input_within right is p input.before input.fed).1 in
              inr (record { denotes = here; below = omega arith; before = input.before; fed = input.fed })
        ]

  -- The same for the node of an id

  module _ (index : ℕ) (id : NodeId) (here : id ≡ id_of index) (live : IsSome (map.get right.ids id)) where
    live_name : Denotes right (id_of index) (name_by right.ids id)
    live_name = by (map.get right.ids id) refl live
      where
        by : (o : Option Name) → map.get right.ids id ≡ o → IsSome o → Denotes right (id_of index) (name_by right.ids id)
        by None none some = absurd (true≢false (sym some))
        by (Some name) named some = ap (map.get right.ids) (sym here) ∙ named ∙ ap (λ o. Some (unwrap_or o [])) (sym named)

    pub next_wire : (can : CanReplace g.graph left right.graph) (law : ConsumerIsFed) (port : ℕ) (wire : End × End) (wires after : List (End × End)) → WiresTo g left right fresh index port wires →
        Gives (port_of right (port_at id port)) wire → after ≡ wires ++ wire ∷ [] → WiresTo g left right fresh index (port + 1) after
    next_wire can law port wire wires after so_far gives same =
        subst (WiresTo g left right fresh index (port + 1)) (sym same)
        (one_more_wire index wires can law port (port_of right (port_at id port)) wire so_far live_name refl gives)

    pub last_wire : (bound count : ℕ) (wires : List (End × End)) → count ≡ count_inputs ((circuit_of right.graph).kind_at (name_by right.ids id)) → count < bound →
        WiresTo g left right fresh index bound wires → WiresBelow g left right fresh (index + 1) wires
    last_wire bound count wires counted last so_far = node_wired index wires bound count (name_by right.ids id) live_name counted last so_far

  -- The ends are at nodes that stay or are new

  module _ (is_g : IsGraph g) (gone : List NodeId) (goes : AreGone g left gone) where
    at_node : (end : End) → IsAtPlace g left fresh end → IsAtNode g gone fresh end
    at_node (Old p) (name, denotes, outer) = (
      name,
      denotes,
      λ there.
          let (other, named, inner) = goes_each p.node there in
          let same : other ≡ name = same_Some other name (sym named ∙ denotes) in
          true≢false (sym (subst (λ n. has_inner left n ≡ true) same inner) ∙ outer),
    )
      where
        goes_each : (id : NodeId) → Contains gone id → IsGone g left id
        goes_each id there = All-contains (IsGone g left) gone id goes.are there
    at_node (Fresh index port) below = below

    pub all_wires : (wires : List (End × End)) → WiresBelow g left right fresh right.slots wires → AreNewWires g left right.graph gone fresh wires
    all_wires wires whole = record {
      ends = all_in (λ (wire : End × End). IsAtNode g gone fresh wire.0 × IsAtNode g gone fresh wire.1) wires (λ wire there. ends wire (whole.are wire there).2);
      are = all_in (λ wire. ServesSomeInput g.graph left right.graph (end_ports g fresh wire)) wires (λ wire there. let (p, input, given) = whole.are wire there in (p, given.before, given.fed, given.is_new));
      each = λ p q fed.
          let wire = is.graph.wires p q fed in
          let (id, denotes) = is.live p.node wire.to wire.is_to in
          let (made, there, given) = whole.each p (record { index = index_of id; below = is.within id p.node denotes; denotes = denotes; before = q; fed = fed }) in
          (made, contained_where_in made wires there, given.is_new);
      once = whole.once;
    }
      where
        ends : {p : Port} (wire : End × End) → Gives p wire → IsAtNode g gone fresh wire.0 × IsAtNode g gone fresh wire.1
        ends wire given = (at_node wire.0 given.source, at_node wire.1 given.target)

-- The first port on no wire, by ids and by names.
use Rattle.std.proofs.Common.{◌≡◌, inl, inr, ℕ, zero, suc, ◌+◌, ◌<◌, ◌≤◌, Bool, true, false, List, [], ◌∷◌, length, Option, Some, None, IsSome, is_some, slice_get, unwrap_or, refl, sym, ap, subst, ◌∙◌, arith, if◌then◌else◌}
use Rattle.std.specs.Option.{option_or, option_map}
use Rattle.std.specs.FinMap as finite
use Rattle.std.proofs.lemmas.Bool.{cases_Bool, true≢false, false_from_ne_true}
use Rattle.std.proofs.lemmas.Option.{none-some, same_Some}
use Rattle.port_types.specs.declared.side.Side.{Side}
use Rattle.port_types.specs.declared.side.Side.TheVariants.{Ins, Outs}
use Rattle.components.specs.Kind.{Shape, outs, ports}
use Rattle.components.specs.Name.{Name, Port, port_get}
use Rattle.components.specs.Node.{Body}
use Rattle.components.specs.NamedGraph.{NamedGraph, IsTyped, is_wired}
use Rattle.components.specs.Numbered.{Within, within, there}
use Rattle.components.specs.Wired.{fed_where_wired, wired_where_fed}
use Rattle.graph_core.specs.declared.graph.PortOpen.{PortOpen}
use Rattle.graph_core.specs.Place.{index_of, id_of}
use Rattle.graph_core.specs.GraphValue.{GraphValue, Denotes, IsGraph, port_of}
use Rattle.graph_core.specs.Wiring.{HasShape, IsWired}
use Rattle.graph_core.specs.Open.{port_at, ComesBefore, IsOpen, IsFirstOpen}
use Rattle.graph_read.specs.declared.fault.GraphRefusal.{GraphRefusal}
use Rattle.graph_read.specs.declared.fault.GraphFaultKind.TheVariants as kind
use Rattle.graph_read.specs.GraphReading.{first_free, open_port, open_refusal, first_open}
use Rattle.graph_read.specs.GraphSteps.{AreNodesOf}

-- What is there

some_there : {A : Type 0} (o : Option A) → IsSome o → (x : A) × (o ≡ Some x)
some_there None there = absurd (true≢false (sym there))
some_there (Some x) there = (x, refl)

-- the test whether a port stands on a wire

pub wired_test : (g : NamedGraph) (side : Side) (p : Port) → IsWired g side p → is_wired g side p ≡ true
wired_test g Ins p wired = ap is_some wired.1
wired_test g Outs p wired = wired_where_fed g wired.0 p wired.1

pub test_wired : (g : NamedGraph) (side : Side) (p : Port) → is_wired g side p ≡ true → IsWired g side p
test_wired g Ins p test = some_there (finite.get g.feeders p) test
test_wired g Outs p test = fed_where_wired g p test

-- Lists of ports

abbrev pub port_named : Name → ℕ → Port
port_named name number = record { node = name; port = number }

step_on : (h : NamedGraph) (side : Side) (name : Name) (number : ℕ) (shapes : List Shape) (wired : Bool) → is_wired h side (port_named name number) ≡ wired →
    (shape : Shape) → first_free h side name number (shape ∷ shapes) ≡ (if wired then first_free h side name (number + 1) shapes else Some number)
step_on h side name number shapes wired is shape = ap (λ (t : Bool). if t then first_free h side name (number + 1) shapes else Some number) is

none_free : (h : NamedGraph) (side : Side) (name : Name) (number : ℕ) (shapes : List Shape) → ((j : ℕ) → number ≤ j → j < number + length shapes → is_wired h side (port_named name j) ≡ true) →
    first_free h side name number shapes ≡ None
none_free h side name number [] wired = refl
none_free h side name number (shape ∷ shapes) wired =
    step_on h side name number shapes true (wired number (omega arith) (omega arith)) shape
    ∙ none_free h side name (number + 1) shapes (λ j lower upper. wired j (omega arith) (omega arith))

found_free : (h : NamedGraph) (side : Side) (name : Name) (k number : ℕ) (shapes : List Shape) → k < length shapes → ((j : ℕ) → number ≤ j → j < number + k → is_wired h side (port_named name j) ≡ true) →
    is_wired h side (port_named name (number + k)) ≡ false → first_free h side name number shapes ≡ Some (number + k)
found_free h side name k number [] within wired free = absurd (omega arith)
found_free h side name zero number (shape ∷ shapes) within wired free =
    let at : number + zero ≡ number = omega arith in
    step_on h side name number shapes false (ap (λ (n : ℕ). is_wired h side (port_named name n)) (sym at) ∙ free) shape ∙ ap (λ (n : ℕ). Some n) (sym at)
found_free h side name (suc k) number (shape ∷ shapes) within wired free =
    let at : number + suc k ≡ number + 1 + k = omega arith in
    step_on h side name number shapes true (wired number (omega arith) (omega arith)) shape
    ∙ found_free h side name k (number + 1) shapes (omega (arith, within)) (λ j lower upper. wired j (omega arith) (omega arith)) (ap (λ (n : ℕ). is_wired h side (port_named name n)) (sym at) ∙ free)
    ∙ ap (λ (n : ℕ). Some n) (sym at)

-- Lists of nodes

nothing_open : (h : NamedGraph) (place : ℕ) (nodes : List (Name × Body)) → ((i : ℕ) (node : Name × Body) → slice_get nodes i ≡ Some node → open_port h node ≡ None) → first_open h place nodes ≡ None
nothing_open h place [] closed = refl
nothing_open h place (node ∷ nodes) closed =
    ap (λ (found : Option (Side × ℕ)). option_or (open_refusal place node.0 found) (first_open h (place + 1) nodes)) (closed zero node refl)
    ∙ nothing_open h (place + 1) nodes (λ i other at. closed (suc i) other at)

abbrev pub opened : ℕ → Name → Side × ℕ → GraphRefusal
opened place name port = record { kind = kind.PortOpen; place = place; name = name; port_open = Some port }

first_opened : (h : NamedGraph) (i place : ℕ) (nodes : List (Name × Body)) (node : Name × Body) (port : Side × ℕ) → slice_get nodes i ≡ Some node →
    ((j : ℕ) (other : Name × Body) → j < i → slice_get nodes j ≡ Some other → open_port h other ≡ None) → open_port h node ≡ Some port → first_open h place nodes ≡ Some (opened (place + i) node.0 port)
first_opened h i place [] node port at closed found = absurd (none-some node at)
first_opened h zero place (first ∷ nodes) node port at closed found =
    let is : first ≡ node = same_Some first node at in
    let here : place + zero ≡ place = omega arith in
    ap (λ (o : Option (Side × ℕ)). option_or (open_refusal place first.0 o) (first_open h (place + 1) nodes)) (ap (open_port h) is ∙ found)
    ∙ (λ j. Some (opened (sym here j) (is j).0 port))
first_opened h (suc i) place (first ∷ nodes) node port at closed found =
    let on : place + 1 + i ≡ place + suc i = omega arith in
    ap (λ (o : Option (Side × ℕ)). option_or (open_refusal place first.0 o) (first_open h (place + 1) nodes)) (closed zero first (omega arith) refl)
    ∙ first_opened h i (place + 1) nodes node port at (λ j other before is. closed (suc j) other (omega arith) is) found
    ∙ ap (λ (n : ℕ). Some (opened n node.0 port)) on

-- The ports of the nodes of a graph

module _ (g : GraphValue) (is_graph : IsGraph g) (nodes : List (Name × Body)) (are : AreNodesOf nodes g) where
  abbrev open_at : ℕ → Side → ℕ → PortOpen
  open_at i side number = record { node = id_of i; side = side; port = number }

  module _ (i : ℕ) (node : Name × Body) (at : slice_get nodes i ≡ Some node) where
    abbrev shapes : Side → List Shape
    shapes side = ports node.1.kind side

    denotes : Denotes g (id_of i) node.0
    denotes = are.ids i ∙ ap (option_map (λ (n : Name × Body). n.0)) at

    name_here : (number : ℕ) → port_of g (port_at (id_of i) number) ≡ port_named node.0 number
    name_here number = λ j. record { node = unwrap_or (denotes j) []; port = number }

    has_shape : (side : Side) (number : ℕ) (shape : Shape) → port_get (shapes side) number ≡ Some shape → HasShape g.graph side (port_of g (port_at (id_of i) number)) shape
    has_shape side number shape there = (node.1, ap (λ (p : Port). finite.get g.graph.nodes p.node) (name_here number) ∙ are.each i node at, there)

    shape_there : (side : Side) (number : ℕ) (shape : Shape) → HasShape g.graph side (port_of g (port_at (id_of i) number)) shape → port_get (shapes side) number ≡ Some shape
    shape_there side number shape has =
        let body : has.0 ≡ node.1 = same_Some has.0 node.1 (sym has.1 ∙ ap (λ (p : Port). finite.get g.graph.nodes p.node) (name_here number) ∙ are.each i node at) in
        ap (λ (b : Body). port_get (ports b.kind side) number) (sym body) ∙ has.2

    wired_unless_open : (side : Side) (number : ℕ) → Within (shapes side) number → (IsOpen g (open_at i side number) → ⊥) → is_wired g.graph side (port_named node.0 number) ≡ true
    wired_unless_open side number within closed =
        elim (cases_Bool (is_wired g.graph side (port_named node.0 number))) [
          | inl wired ↦ wired
          | inr free ↦
              let shape = some_there (port_get (shapes side) number) (there (shapes side) number within) in
              absurd (closed (record {
                shape = shape.0;
                there = has_shape side number shape.0 shape.1;
                free = λ wired. true≢false (sym (wired_test g.graph side (port_named node.0 number) (subst (IsWired g.graph side) (name_here number) wired)) ∙ free);
              }))
        ]

    all_wired : (side : Side) → ((number : ℕ) → IsOpen g (open_at i side number) → ⊥) → first_free g.graph side node.0 1 (shapes side) ≡ None
    all_wired side closed =
        none_free g.graph side node.0 1 (shapes side) (λ j lower upper. wired_unless_open side j (record { some = lower; few = omega (arith, upper) }) (closed j))

    pub no_open : ((side : Side) (number : ℕ) → IsOpen g (open_at i side number) → ⊥) → open_port g.graph node ≡ None
    no_open closed = λ j. option_or (option_map (λ number. (Ins, number)) (all_wired Ins (closed Ins) j)) (option_map (λ number. (Outs, number)) (all_wired Outs (closed Outs) j))

    number_within : (side : Side) (number : ℕ) → IsOpen g (open_at i side number) → Within (shapes side) number
    number_within side number is_open = within (shapes side) number (ap is_some (shape_there side number is_open.shape is_open.there))

    first_number : (side : Side) (number : ℕ) → IsOpen g (open_at i side number) → ((k : ℕ) → k < number → IsOpen g (open_at i side k) → ⊥) → first_free g.graph side node.0 1 (shapes side) ≡ Some number
    first_number side zero is_open first = absurd (omega (arith, (number_within side zero is_open).some))
    first_number side (suc k) is_open first =
        let numbered = number_within side (suc k) is_open in
        let at : 1 + k ≡ suc k = omega arith in
        let free : is_wired g.graph side (port_named node.0 (suc k)) ≡ false =
        false_from_ne_true (is_wired g.graph side (port_named node.0 (suc k))) (λ test. is_open.free (subst (IsWired g.graph side) (sym (name_here (suc k))) (test_wired g.graph side (port_named node.0 (suc k)) test))) in
        found_free g.graph side node.0 k 1 (shapes side) (omega (arith, numbered.few))
        (λ j lower upper. wired_unless_open side j (record { some = lower; few = omega (arith, upper, numbered.few) }) (first j (omega (arith, upper))))
        (ap (λ (n : ℕ). is_wired g.graph side (port_named node.0 n)) at ∙ free) ∙ ap (λ (n : ℕ). Some n) at

    pub first_here : (side : Side) (number : ℕ) → IsOpen g (open_at i side number) → ((s : Side) (k : ℕ) → ComesBefore s k side number → IsOpen g (open_at i s k) → ⊥) →
        open_port g.graph node ≡ Some (side, number)
    first_here Ins number is_open first =
        ap (λ (o : Option ℕ). option_or (option_map (λ (n : ℕ). (Ins, n)) o) (option_map (λ (n : ℕ). (Outs, n)) (first_free g.graph Outs node.0 1 (outs node.1.kind))))
        (first_number Ins number is_open (λ k before. first Ins k before))
    first_here Outs number is_open first =
        λ j. option_or (option_map (λ (n : ℕ). (Ins, n)) (all_wired Ins (λ k. first Ins k tt) j)) (option_map (λ (n : ℕ). (Outs, n)) (first_number Outs number is_open (λ k before. first Outs k before) j))

  pub none_open : ((p : PortOpen) → IsOpen g p → ⊥) → first_open g.graph 1 nodes ≡ None
  none_open closed = nothing_open g.graph 1 nodes (λ i node at. no_open i node at (λ side number. closed (open_at i side number)))

  -- the entry of a live node
  pub entry_at : (i : ℕ) (name : Name) → Denotes g (id_of i) name → (node : Name × Body) × (slice_get nodes i ≡ Some node) × (node.0 ≡ name)
  entry_at i name is = at (slice_get nodes i) refl
    where
      at : (o : Option (Name × Body)) → slice_get nodes i ≡ o → (node : Name × Body) × (slice_get nodes i ≡ Some node) × (node.0 ≡ name)
      at None none = absurd (none-some name (ap (option_map (λ (n : Name × Body). n.0)) (sym none) ∙ sym (are.ids i) ∙ is))
      at (Some node) found = (node, found, same_Some node.0 name (ap (option_map (λ (n : Name × Body). n.0)) (sym found) ∙ sym (are.ids i) ∙ is))

  pub one_open : (p : PortOpen) (name : Name) → Denotes g p.node name → IsFirstOpen g p → first_open g.graph 1 nodes ≡ Some (opened (1 + index_of p.node) name (p.side, p.port))
  one_open p name is_live is_first =
      let i = index_of p.node in
      let entry = entry_at i name is_live in
      first_opened g.graph i 1 nodes entry.0 (p.side, p.port) entry.1
      (λ j node before at. no_open j node at (λ side number is_open. is_first.first (open_at j side number) is_open (inl before)))
      (first_here i entry.0 entry.1 p.side p.port is_first.is_open (λ side k before is_open. is_first.first (open_at i side k) is_open (inr (refl, before))))
      ∙ ap (λ (n : Name). Some (opened (1 + i) n (p.side, p.port))) entry.2

-- where all ports of a typed graph stand on wires, none is open
pub typed_closed : (g : GraphValue) → IsTyped g.graph → (p : PortOpen) → IsOpen g p → ⊥
typed_closed g typed p is_open = closed (port_of g (port_at p.node p.port)) p.side is_open.there is_open.free
  where
    closed : (port : Port) (side : Side) → HasShape g.graph side port is_open.shape → ¬ (IsWired g.graph side port) → ⊥
    closed port Ins there free = free (typed.inputs port there.0 is_open.shape there.1 there.2)
    closed port Outs there free = free (typed.outputs port there.0 is_open.shape there.1 there.2)

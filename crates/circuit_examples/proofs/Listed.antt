-- The circuit of a graph that is listed, and when it is typed.
use Rattle.std.proofs.Common.{◌≡◌, ◌≢◌, ℕ, ◌<◌, inl, inr, Bool, true, false, refl, sym, ap, subst, ◌∙◌, bytes_eq, cond, if◌then◌else◌, length, List, [], ◌∷◌, Option, Some, None}
use Rattle.std.specs.Ordering.{eq_by_cmp}
use Rattle.std.specs.FinMap as map
use Rattle.std.specs.List.{AllByRecursion}
use Rattle.std.proofs.lemmas.Map.Text.{is_eq-slice_cmp}
use Rattle.std.proofs.lemmas.Option.{none-some, same_Some}
use Rattle.components.specs.declared.kind.Kind.{Kind}
use Rattle.components.specs.Name.{Name, Port, name_cmp, port_cmp, port_get}
use Rattle.components.specs.Kind.{Shape, ins, outs, KindOk}
use Rattle.components.specs.Node.{Body}
use Rattle.components.specs.NamedGraph.{IsTyped}
use Rattle.components.specs.Numbered.{single_port}
use Rattle.components.specs.Lookups.{same_test, other_test}
use Rattle.components.specs.Orders.{name_total, port_total, port_same, port_cases}
use Rattle.circuits.specs.Circuit.{Circuit, Wire, Typed, circuit_of, kind_of_body}
use Rattle.circuits.specs.Buffers.{first_port}
use Rattle.circuits.specs.BufferRule.{bare}
use Rattle.circuits.specs.Laws.{GraphIsTyped}
use Rattle.circuit_examples.specs.Listed.{ListedNode, ListedWire, with_nodes, listed}
use Rattle.circuits.proofs.Names.{name_cases}

-- the circuit, spelled out
abbrev pub kind_in : List ListedNode → Name → Option Kind
kind_in [] n = None
kind_in (node ∷ nodes) n = if bytes_eq n node.name then Some node.kind else kind_in nodes n

abbrev pub feeder_in : List ListedWire → Port → Option Port
feeder_in [] p = None
feeder_in (wire ∷ wires) p = if eq_by_cmp port_cmp p wire.target then Some wire.source else feeder_in wires p

abbrev pub spelled : List ListedNode → List ListedWire → Circuit
spelled nodes wires = record { kind_at = kind_in nodes; feeder = feeder_in wires }

kind_cond : (b : Bool) (k : Kind) (o : Option Body) → kind_of_body (cond b (Some (bare k)) o) ≡ (if b then Some k else kind_of_body o)
kind_cond true k o = refl
kind_cond false k o = refl

feeder_cond : (b : Bool) (q : Port) (o : Option Port) → cond b (Some q) o ≡ (if b then Some q else o)
feeder_cond true q o = refl
feeder_cond false q o = refl

node_at : (nodes : List ListedNode) (n : Name) → kind_of_body (map.get (with_nodes nodes).nodes n) ≡ kind_in nodes n
node_at [] n = ap kind_of_body (map.get-empty name_cmp n)
node_at (node ∷ nodes) n =
    ap kind_of_body (map.get-insert name_total (with_nodes nodes).nodes node.name (bare node.kind) n)
    ∙ kind_cond (eq_by_cmp name_cmp n node.name) node.kind (map.get (with_nodes nodes).nodes n)
    ∙ ap (λ b. if b then Some node.kind else kind_of_body (map.get (with_nodes nodes).nodes n)) (is_eq-slice_cmp n node.name)
    ∙ ap (λ z. if bytes_eq n node.name then Some node.kind else z) (node_at nodes n)

same_nodes : (nodes : List ListedNode) (wires : List ListedWire) → (listed nodes wires).nodes ≡ (with_nodes nodes).nodes
same_nodes nodes [] = refl
same_nodes nodes (wire ∷ wires) = same_nodes nodes wires

no_wires : (nodes : List ListedNode) (p : Port) → map.get (with_nodes nodes).feeders p ≡ None
no_wires [] p = map.get-empty port_cmp p
no_wires (node ∷ nodes) p = no_wires nodes p

wire_at : (nodes : List ListedNode) (wires : List ListedWire) (p : Port) → map.get (listed nodes wires).feeders p ≡ feeder_in wires p
wire_at nodes [] p = no_wires nodes p
wire_at nodes (wire ∷ wires) p =
    map.get-insert port_total (listed nodes wires).feeders wire.target wire.source p
    ∙ feeder_cond (eq_by_cmp port_cmp p wire.target) wire.source (map.get (listed nodes wires).feeders p)
    ∙ ap (λ z. if eq_by_cmp port_cmp p wire.target then Some wire.source else z) (wire_at nodes wires p)

pub is_spelled : (nodes : List ListedNode) (wires : List ListedWire) → circuit_of (listed nodes wires) ≡ spelled nodes wires
is_spelled nodes wires =
    λ i. record {
      kind_at = λ n. (ap (λ z. kind_of_body (map.get z n)) (same_nodes nodes wires) ∙ node_at nodes n) i;
      feeder = λ p. wire_at nodes wires p i;
    }

-- what holds of each that is listed holds of each that there is
pub each_node : (P : Name → Kind → Type 0) (nodes : List ListedNode) → AllByRecursion (λ node. P node.name node.kind) nodes → (n : Name) (k : Kind) → kind_in nodes n ≡ Some k → P n k
each_node P [] all n k e = absurd (none-some k e)
each_node P (node ∷ nodes) all n k e =
    elim (name_cases n node.name) [
      | inl is ↦
          subst (P n) (same_Some node.kind k (sym (ap (λ b. if b then Some node.kind else kind_in nodes n) is.test) ∙ e))
          (subst (λ z. P z node.kind) (sym is.is) all.0)
      | inr ne ↦ each_node P nodes all.1 n k (sym (ap (λ b. if b then Some node.kind else kind_in nodes n) ne.test) ∙ e)
    ]

pub each_wire : (P : Port → Port → Type 0) (wires : List ListedWire) → AllByRecursion (λ wire. P wire.target wire.source) wires → (p q : Port) → feeder_in wires p ≡ Some q → P p q
each_wire P [] all p q e = absurd (none-some q e)
each_wire P (wire ∷ wires) all p q e =
    elim (port_cases p wire.target) [
      | inl is ↦
          subst (P p) (same_Some wire.source q (sym (ap (λ b. if b then Some wire.source else feeder_in wires p) (same_test port_total port_same p wire.target is)) ∙ e))
          (subst (λ z. P z wire.source) (sym is) all.0)
      | inr ne ↦ each_wire P wires all.1 p q (sym (ap (λ b. if b then Some wire.source else feeder_in wires p) (other_test port_total port_same p wire.target ne)) ∙ e)
    ]

-- each port of each node is on a wire
abbrev pub InputsFed : Circuit → Name → Kind → Type 0
InputsFed c n k = (i : ℕ) (a : Shape) → port_get (ins k) i ≡ Some a → (q : Port) × (c.feeder (record { node = n; port = i }) ≡ Some q)

abbrev pub OutputsFeed : Circuit → Name → Kind → Type 0
OutputsFeed c n k = (i : ℕ) (a : Shape) → port_get (outs k) i ≡ Some a → (p : Port) × (c.feeder p ≡ Some (record { node = n; port = i }))

-- a side with no port, and one with a port that is on a wire
module _ (c : Circuit) (n : Name) (k : Kind) where
  pub no_in : ins k ≡ [] → InputsFed c n k
  no_in none i a e = absurd (none-some a (ap (λ x. port_get x i) (sym none) ∙ e))

  pub no_out : outs k ≡ [] → OutputsFeed c n k
  no_out none i a e = absurd (none-some a (ap (λ x. port_get x i) (sym none) ∙ e))

  pub one_in : (b : Shape) → ins k ≡ b ∷ [] → (q : Port) → c.feeder (first_port n) ≡ Some q → InputsFed c n k
  one_in b one q fed i a e =
      (q, ap (λ j. c.feeder (record { node = n; port = j })) (single_port b a i (ap (λ x. port_get x i) (sym one) ∙ e)) ∙ fed)

  pub one_out : (b : Shape) → outs k ≡ b ∷ [] → (p : Port) → c.feeder p ≡ Some (first_port n) → OutputsFeed c n k
  one_out b one p fed i a e =
      (p, fed ∙ ap (λ j. Some (record { node = n; port = j })) (sym (single_port b a i (ap (λ x. port_get x i) (sym one) ∙ e))))

-- outputs that are not one
pub other_node : (p q x y : Port) → p.node ≢ q.node → p ≡ q → x ≡ y
other_node p q x y apart e = absurd (apart (ap (λ (z : Port). z.node) e))

pub other_port : (p q x y : Port) → p.port ≢ q.port → p ≡ q → x ≡ y
other_port p q x y apart e = absurd (apart (ap (λ (z : Port). z.port) e))

-- what is shown of each that is listed
pub record ListedTyped (nodes : List ListedNode) (wires : List ListedWire) : Type 0 where
  pub kinds : AllByRecursion (λ node. KindOk node.kind) nodes
  pub are_wires : AllByRecursion (λ wire. Wire (spelled nodes wires) wire.source wire.target) wires
  pub inputs : AllByRecursion (λ node. InputsFed (spelled nodes wires) node.name node.kind) nodes
  pub outputs : AllByRecursion (λ node. OutputsFeed (spelled nodes wires) node.name node.kind) nodes
  pub once : AllByRecursion (λ wire. AllByRecursion (λ other. other.source ≡ wire.source → wire.target ≡ other.target) wires) wires
  pub size : ℕ
  pub names : AllByRecursion (λ node. length node.name < size) nodes

pub listed_typed : (nodes : List ListedNode) (wires : List ListedWire) → ListedTyped nodes wires → Typed (spelled nodes wires)
listed_typed nodes wires h =
    record {
      kinds = each_node (λ n k. KindOk k) nodes h.kinds;
      wires = each_wire (λ p q. Wire (spelled nodes wires) q p) wires h.are_wires;
      inputs = λ p k a e f. each_node (InputsFed (spelled nodes wires)) nodes h.inputs p.node k e p.port a f;
      outputs = λ q k a e f. each_node (OutputsFeed (spelled nodes wires)) nodes h.outputs q.node k e q.port a f;
      once = λ p r q e f. each_wire (λ x y. (z : Port) → feeder_in wires z ≡ Some y → x ≡ z) wires (once_each wires h.once) p q e r f;
      names = (h.size, each_node (λ n k. length n < h.size) nodes h.names);
    }
  where
    once_each : (some : List ListedWire) → AllByRecursion (λ wire. AllByRecursion (λ other. other.source ≡ wire.source → wire.target ≡ other.target) wires) some →
        AllByRecursion (λ wire. (z : Port) → feeder_in wires z ≡ Some wire.source → wire.target ≡ z) some
    once_each [] all = tt
    once_each (wire ∷ some) all = (
      (λ z e. each_wire (λ x y. y ≡ wire.source → wire.target ≡ x) wires all.0 z wire.source e refl),
      once_each some all.1,
    )

pub graph_is_typed : GraphIsTyped → (nodes : List ListedNode) (wires : List ListedWire) → Typed (spelled nodes wires) → IsTyped (listed nodes wires)
graph_is_typed law nodes wires typed = law (listed nodes wires) (subst Typed (sym (is_spelled nodes wires)) typed)

-- A drawing has its nodes and wires and no others; so it matches in a graph exactly where its inner nodes stand there.
use Rattle.std.proofs.Common.{◌≡◌, ◌↔◌, ◌⊎◌, inl, inr, true, refl, sym, ap, subst, ◌∙◌, map, List, [], ◌∷◌, Option, Some, None, true≢false}
use Rattle.std.specs.FinMap as finite
use Rattle.std.proofs.lemmas.Option.{none-some, same_Some}
use Rattle.components.specs.declared.kind.Kind.{Kind}
use Rattle.components.specs.Name.{Name, Port, name_cmp, port_cmp}
use Rattle.components.specs.Node.{Body}
use Rattle.components.specs.NamedGraph.{NamedGraph, no_graph}
use Rattle.components.specs.Lookups.{get_inserted, get_not_inserted}
use Rattle.components.specs.Orders.{name_total, name_same, name_cases, port_total, port_same, port_cases}
use Rattle.circuits.specs.Circuit.{circuit_of, kind_of_body}
use Rattle.circuits.specs.BufferRule.{bare}
use Rattle.circuits.specs.Replacing.{In, head, tail, NoneTwice, is_inner}
use Rattle.circuits.specs.ReplacedGraph.{has_inner, Matches}
use Rattle.circuit_plans.specs.Plans.{Out}
use Rattle.circuit_plans.specs.Drawing.{DrawnWire, Drawing, port_named, with_nodes, with_wires, drawn}
use Rattle.circuit_plans.proofs.Namings.{one_node}
use Rattle.circuit_plans.proofs.Drawn.{Listed, wires_keep_nodes, nodes_keep_wires}
use Rattle.subst_engine.specs.Making.{AllDiffer}
use Rattle.drawn_rules.specs.Placed.{is_inside, IsPlaced}
use Rattle.drawn_rules.proofs.DrawnMade.{node_at, wire_fed}

-- What is found was put there

record Put (nodes : List Listed) (m : Name) (body : Body) : Type 0 where
  node : Listed
  listed : In node nodes
  is_name : m ≡ node.0
  is_body : body ≡ bare node.1

node_from : (g : NamedGraph) (nodes : List Listed) (m : Name) (body : Body) → finite.get (with_nodes g nodes).nodes m ≡ Some body → (finite.get g.nodes m ≡ Some body) ⊎ Put nodes m body
node_from g [] m body e = inl e
node_from g (node ∷ nodes) m body e =
    elim (node_from (with_nodes g (node ∷ [])) nodes m body e) [
      | inl before ↦ elim (name_cases m node.0) [
        | inl is ↦
            inr record {
              node = node;
              listed = head refl;
              is_name = is;
              is_body = same_Some body (bare node.1) (sym before ∙ get_inserted name_total name_same g.nodes node.0 (bare node.1) m is);
            }
        | inr other ↦ inl (sym (get_not_inserted name_total name_same g.nodes node.0 (bare node.1) m other) ∙ before)
      ]
      | inr put ↦ inr record { node = put.node; listed = tail put.listed; is_name = put.is_name; is_body = put.is_body }
    ]

wire_from : (g : NamedGraph) (wires : List (Port × Port)) (p q : Port) → finite.get (with_wires g wires).feeders p ≡ Some q → (finite.get g.feeders p ≡ Some q) ⊎ In (q, p) wires
wire_from g [] p q e = inl e
wire_from g (w ∷ wires) p q e =
    elim (wire_from (with_wires g (w ∷ [])) wires p q e) [
      | inl before ↦ elim (port_cases p w.1) [
        | inl is ↦
            let source : q ≡ w.0 = same_Some q w.0 (sym before ∙ get_inserted port_total port_same g.feeders w.1 w.0 p is) in
            inr (head (λ i. (source i, is i)))
        | inr other ↦ inl (sym (get_not_inserted port_total port_same g.feeders w.1 w.0 p other) ∙ before)
      ]
      | inr later ↦ inr (tail later)
    ]

unmapped_in : {A B : Type 0} (f : A → B) (y : B) (xs : List A) → In y (map f xs) → (x : A) × In x xs × (y ≡ f x)
unmapped_in f y [] i = elim i [ ]
unmapped_in f y (x ∷ xs) (head e) = (x, head refl, e)
unmapped_in f y (x ∷ xs) (tail i) = let (z, within, is) = unmapped_in f y xs i in (z, tail within, is)

-- What a drawing has

-- a name of an inner node
pub record InnerNode {N : Type 0} (d : Drawing N) (name : N → Name) (m : Name) (k : Kind) : Type 0 where
  pub node : N
  pub is_name : m ≡ name node
  pub is_kind : k ≡ d.kind node
  pub inside : is_inside d node ≡ true

module _ {N : Type 0} (d : Drawing N) (name : N → Name) where
  abbrev listed : N → Listed
  listed n = (name n, d.kind n)

  abbrev named_wire : DrawnWire N → Port × Port
  named_wire w = (port_named name w.source, port_named name w.target)

  inner_put : (m : Name) (k : Kind) (body : Body) → k ≡ body.kind → is_inner (Some k) ≡ true → (finite.get no_graph.nodes m ≡ Some body) ⊎ Put (map listed d.nodes) m body → InnerNode d name m k
  inner_put m k body is inner (inl e) = absurd (none-some body (sym (finite.get-empty name_cmp m) ∙ e))
  inner_put m k body is inner (inr put) =
      let (n, within, same) = unmapped_in listed put.node d.nodes put.listed in
      let kind : k ≡ d.kind n = is ∙ ap (λ (b : Body). b.kind) put.is_body ∙ ap (λ (z : Listed). z.1) same in
      record { node = n; is_name = put.is_name ∙ ap (λ (z : Listed). z.0) same; is_kind = kind; inside = ap (λ z. is_inner (Some z)) (sym kind) ∙ inner }

  inner_by : (m : Name) (k : Kind) (o : Option Body) → finite.get (drawn d name).nodes m ≡ o → kind_of_body o ≡ Some k → is_inner (Some k) ≡ true → InnerNode d name m k
  inner_by m k None e is inner = absurd (none-some k is)
  inner_by m k (Some body) e is inner =
      inner_put m k body (same_Some k body.kind (sym is)) inner
      (node_from no_graph (map listed d.nodes) m body (ap (λ z. finite.get z m) (sym (wires_keep_nodes (with_nodes no_graph (map listed d.nodes)) (map named_wire d.wires))) ∙ e))

  pub inner_kind : (m : Name) (k : Kind) → (circuit_of (drawn d name)).kind_at m ≡ Some k → is_inner (Some k) ≡ true → InnerNode d name m k
  inner_kind m k e inner = inner_by m k (finite.get (drawn d name).nodes m) refl e inner

  -- a wire of the graph is drawn
  pub record Drew (p q : Port) : Type 0 where
    pub wire : DrawnWire N
    pub listed : In wire d.wires
    pub is_target : p ≡ port_named name wire.target
    pub is_source : q ≡ port_named name wire.source

  drew_by : (p q : Port) → (finite.get (with_nodes no_graph (map listed d.nodes)).feeders p ≡ Some q) ⊎ In (q, p) (map named_wire d.wires) → Drew p q
  drew_by p q (inl e) = absurd (none-some q (sym (ap (λ z. finite.get z p) (nodes_keep_wires no_graph (map listed d.nodes)) ∙ finite.get-empty port_cmp p) ∙ e))
  drew_by p q (inr i) =
      let (w, within, same) = unmapped_in named_wire (q, p) d.wires i in
      record { wire = w; listed = within; is_target = ap (λ (z : Port × Port). z.1) same; is_source = ap (λ (z : Port × Port). z.0) same }

  pub drew : (p q : Port) → finite.get (drawn d name).feeders p ≡ Some q → Drew p q
  drew p q e = drew_by p q (wire_from (with_nodes no_graph (map listed d.nodes)) (map named_wire d.wires) p q e)

  module _ (has : (n : N) → In n d.nodes) (once : NoneTwice (map name d.nodes)) where
    pub kind_drawn : (n : N) → (circuit_of (drawn d name)).kind_at (name n) ≡ Some (d.kind n)
    kind_drawn n = ap kind_of_body (node_at d name has once n)

    inner_of : (m : Name) (o : Option Kind) → (circuit_of (drawn d name)).kind_at m ≡ o → is_inner o ≡ true → (k : Kind) × ((circuit_of (drawn d name)).kind_at m ≡ Some k) × InnerNode d name m k
    inner_of m None e inner = absurd (true≢false (sym inner))
    inner_of m (Some k) e inner = (k, e, inner_kind m k e inner)

    pub has_inner_node : (m : Name) → has_inner (drawn d name) m ≡ true → (k : Kind) × ((circuit_of (drawn d name)).kind_at m ≡ Some k) × InnerNode d name m k
    has_inner_node m inner = inner_of m ((circuit_of (drawn d name)).kind_at m) refl inner

    pub inside_inner : (n : N) → is_inside d n ≡ true → has_inner (drawn d name) (name n) ≡ true
    inside_inner n inside = ap is_inner (kind_drawn n) ∙ inside

    same_port : (a b : Out N) → port_named name a ≡ port_named name b → a ≡ b
    same_port a b e =
        let node : a.at ≡ b.at = one_node name d.nodes once a.at b.at (has a.at) (has b.at) (ap (λ (z : Port). z.node) e) in
        λ i. record { at = node i; port = ap (λ (z : Port). z.port) e i }

    -- one wire is drawn where the graph has it
    pub drew_wire : (w : DrawnWire N) → finite.get (drawn d name).feeders (port_named name w.target) ≡ Some (port_named name w.source) → In w d.wires
    drew_wire w e =
        let found = drew (port_named name w.target) (port_named name w.source) e in
        let same : found.wire ≡ w = λ i. record { source = sym (same_port w.source found.wire.source found.is_source) i; target = sym (same_port w.target found.wire.target found.is_target) i } in
        subst (λ z. In z d.wires) same found.listed

-- Where it stands in a graph

module _ {N M : Type 0} (g : NamedGraph) (left : Drawing N) (old : N → Name) (right : Drawing M) (new : M → Name)
    (has : (n : N) → In n left.nodes) (once : NoneTwice (map old left.nodes)) (targets : AllDiffer (map (port_named old) (map (λ w. w.target) left.wires))) where
  drawn_wire : (w : DrawnWire N) → (finite.get (drawn left old).feeders (port_named old w.target) ≡ Some (port_named old w.source)) ↔ In w left.wires
  drawn_wire w = (drew_wire left old has once w, wire_fed left old has once targets w)

  pub matched : IsPlaced g left old right new → Matches g (drawn left old) (drawn right new)
  matched placed =
      record {
        nodes = λ m inner.
            let (k, there, found) = has_inner_node left old has once m inner in
            ap (circuit_of g).kind_at found.is_name ∙ placed.kinds found.node found.inside ∙ ap Some (sym found.is_kind) ∙ sym there;
        wires = λ p q p_inner q_inner.
            let (k, there, into) = has_inner_node left old has once p.node p_inner in
            let (l, here, from) = has_inner_node left old has once q.node q_inner in
            let w : DrawnWire N = record { source = record { at = from.node; port = q.port }; target = record { at = into.node; port = p.port } } in
            let target : port_named old w.target ≡ p = λ i. record { node = sym into.is_name i; port = p.port } in
            let source : port_named old w.source ≡ q = λ i. record { node = sym from.is_name i; port = q.port } in
            let placed_wire = placed.wires w from.inside into.inside in
            let drawn_one = drawn_wire w in
            subst (λ (z : Port). (finite.get g.feeders z ≡ Some q) ↔ (finite.get (drawn left old).feeders z ≡ Some q)) target
            (subst (λ (z : Port). (finite.get g.feeders (port_named old w.target) ≡ Some z) ↔ (finite.get (drawn left old).feeders (port_named old w.target) ≡ Some z)) source
            ((λ fed. drawn_one.1 (placed_wire.0 fed)), (λ fed. placed_wire.1 (drawn_one.0 fed))));
        new = λ m k there inner.
            let found = inner_kind right new m k there inner in
            elim (placed.room found.node found.inside) [
              | inl none ↦ inl (ap (circuit_of g).kind_at found.is_name ∙ none)
              | inr (n, inside, is) ↦ inr (ap (λ z. has_inner (drawn left old) z) (found.is_name ∙ sym is) ∙ inside_inner left old has once n inside)
            ];
      }

  pub placed : ((m : M) → In m right.nodes) → NoneTwice (map new right.nodes) → Matches g (drawn left old) (drawn right new) → IsPlaced g left old right new
  placed new_has new_once matches =
      record {
        kinds = λ n inside. matches.nodes (old n) (inside_inner left old has once n inside) ∙ kind_drawn left old has once n;
        wires = λ w from into.
            let same = matches.wires (port_named old w.target) (port_named old w.source) (inside_inner left old has once w.target.at into) (inside_inner left old has once w.source.at from) in
            let one = drawn_wire w in
            ((λ fed. one.0 (same.0 fed)), (λ i. same.1 (one.1 i)));
        room = λ m inside.
            elim (matches.new (new m) (right.kind m) (kind_drawn right new new_has new_once m) inside) [
              | inl none ↦ inl none
              | inr inner ↦
                  let (k, there, found) = has_inner_node left old has once (new m) inner in
                  inr (found.node, found.inside, sym found.is_name)
            ];
      }

-- A graph by names is typed exactly where its circuit is.
use Rattle.std.proofs.Common.{◌≡◌, ℕ, ◌+◌, ◌<◌, inl, inr, refl, sym, ap, subst, ◌∙◌, cond, length, List, [], ◌∷◌, Option, Some, None, arith}
use Rattle.std.specs.FinMap as map
use Rattle.std.proofs.lemmas.Option.{same_Some}
use Rattle.components.specs.declared.kind.Kind.{Kind}
use Rattle.components.specs.Name.{Name, Port, name_cmp, port_get}
use Rattle.components.specs.Kind.{ins, outs, KindOk}
use Rattle.components.specs.Node.{Body}
use Rattle.components.specs.NamedGraph.{NamedGraph, IsWire, IsTyped}
use Rattle.components.specs.Lookups.{other_test}
use Rattle.components.specs.Orders.{name_total, name_same, name_cases}
use Rattle.circuits.specs.Circuit.{Wire, Typed, circuit_of, kind_of_body}

-- the node behind a kind
pub record HasBody (o : Option Body) (k : Kind) : Type 0 where
  pub body : Body
  pub is_body : o ≡ Some body
  pub is_kind : body.kind ≡ k

pub body_behind : (o : Option Body) (k : Kind) → kind_of_body o ≡ Some k → HasBody o k
body_behind None k e = let z : None ≡ Some k = e in cc
body_behind (Some body) k e = record { body = body; is_body = refl; is_kind = same_Some body.kind k e }

-- the names of the entries, all together
total_length : List (Name × Body) → ℕ
total_length [] = 0
total_length (e ∷ es) = length e.0 + total_length es + 1

name_short : (es : List (Name × Body)) (n : Name) (body : Body) → map.find name_cmp n es ≡ Some body → length n < total_length es
unfolding total_length
name_short [] n body e = let z : None ≡ Some body = e in cc
name_short (x ∷ es) n body e =
    elim (name_cases n x.0) [
      | inl same ↦ let long : length n ≡ length x.0 = ap length same in omega (arith, long)
      | inr other ↦
          let later : map.find name_cmp n es ≡ Some body = sym (ap (λ b. cond b (Some x.1) (map.find name_cmp n es)) (other_test name_total name_same n x.0 other)) ∙ e in
          let short = name_short es n body later in
          omega (arith, short)
    ]

-- a typed graph stands for a typed circuit
module _ (g : NamedGraph) (ty : IsTyped g) where
  behind : (n : Name) (k : Kind) → (circuit_of g).kind_at n ≡ Some k → HasBody (map.get g.nodes n) k
  behind n k e = body_behind (map.get g.nodes n) k e

  wire_of : (p q : Port) → map.get g.feeders p ≡ Some q → Wire (circuit_of g) q p
  wire_of p q e =
      let w = ty.wires p q e in
      record {
        to = w.to.kind;
        from = w.from.kind;
        shape = w.shape;
        is_to = ap kind_of_body w.is_to;
        is_from = ap kind_of_body w.is_from;
        enters = w.enters;
        leaves = w.leaves;
      }

  pub circuit_typed : Typed (circuit_of g)
  circuit_typed =
      record {
        kinds = λ n k e. let at = behind n k e in subst KindOk at.is_kind (ty.kinds n at.body at.is_body);
        wires = wire_of;
        inputs = λ p k a e f. let at = behind p.node k e in ty.inputs p at.body a at.is_body (ap (λ x. port_get (ins x) p.port) at.is_kind ∙ f);
        outputs = λ q k a e f. let at = behind q.node k e in ty.outputs q at.body a at.is_body (ap (λ x. port_get (outs x) q.port) at.is_kind ∙ f);
        once = ty.once;
        names = (
          total_length (map.entries g.nodes),
          λ n k e. let at = behind n k e in name_short (map.entries g.nodes) n at.body (sym (map.get-entries g.nodes n) ∙ at.is_body),
        );
      }

-- a graph is typed where its circuit is
module _ (g : NamedGraph) (ty : Typed (circuit_of g)) where
  graph_wire : (target source : Port) → map.get g.feeders target ≡ Some source → IsWire g source target
  graph_wire target source e =
      let w = ty.wires target source e in
      let from = body_behind (map.get g.nodes source.node) w.from w.is_from in
      let to = body_behind (map.get g.nodes target.node) w.to w.is_to in
      record {
        from = from.body;
        to = to.body;
        shape = w.shape;
        is_from = from.is_body;
        is_to = to.is_body;
        leaves = ap (λ x. port_get (outs x) source.port) from.is_kind ∙ w.leaves;
        enters = ap (λ x. port_get (ins x) target.port) to.is_kind ∙ w.enters;
      }

  pub graph_typed : IsTyped g
  graph_typed =
      record {
        kinds = λ n body e. ty.kinds n body.kind (ap kind_of_body e);
        wires = graph_wire;
        inputs = λ p body a e f. ty.inputs p body.kind a (ap kind_of_body e) f;
        outputs = λ p body a e f. ty.outputs p body.kind a (ap kind_of_body e) f;
        once = ty.once;
      }

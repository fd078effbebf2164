-- A node whose ports are joined may take the places of two.
use Rattle.std.proofs.Common.{◌≡◌, ◌≢◌, inl, inr, zero, suc, List, [], ◌∷◌, Option, Some, None, refl, sym, ap, ◌∙◌, arith}
use Rattle.std.proofs.lemmas.Option.{none-some}
use Rattle.std.specs.List.{All, AllPairs}
use Rattle.std.specs.Cmp.{IsTotalOrder}
use Rattle.std.specs.declared.cmp.Ordering.{Ordering}
use Rattle.std.specs.FinMap as finite
use Rattle.std.specs.FinMap.{FinMap, IsAntisymmetric}
use Rattle.components.specs.declared.kind.Kind.TheVariants.{Buffer}
use Rattle.components.specs.declared.node.Node.{Node}
use Rattle.components.specs.Kind.{Shape, ins, outs}
use Rattle.components.specs.Lookups.{found_if, get_inserted, get_not_removed, get_removed, get_retained, key_cases}
use Rattle.components.specs.Name.{Name, Port, port_get}
use Rattle.components.specs.NamedGraph.{NamedGraph, CanWire, with_node, without_node}
use Rattle.components.specs.Node.{NodeOk, body_of}
use Rattle.components.specs.Orders.{name_total, name_same, port_total, port_same}
use Rattle.graph_core.specs.declared.exchange.End.{End}
use Rattle.graph_core.specs.declared.exchange.End.TheVariants.{Fresh}
use Rattle.graph_core.specs.declared.place.NodeId.{NodeId}
use Rattle.graph_core.specs.GraphValue.{GraphValue, Denotes, IsGraph, name_by}
use Rattle.graph_core.specs.Exchange.{CanExchange, IsAtNode, end_port, with_fresh}

pub one : {A : Type 0} (P : A → Type 0) (x : A) → P x → All P (x ∷ [])
one P x p zero d below = p
one P x p (suc k) d below = absurd (omega arith)

pub two : {A : Type 0} (P : A → Type 0) (x y : A) → P x → P y → All P (x ∷ y ∷ [])
two P x y p q zero d below = p
two P x y p q (suc zero) d below = q
two P x y p q (suc (suc k)) d below = absurd (omega arith)

pub pair : {A : Type 0} (P : A → A → Type 0) (x y : A) → P x y → AllPairs P (x ∷ y ∷ [])
pair P x y p zero zero d less below = absurd (omega arith)
pair P x y p zero (suc zero) d less below = p
pair P x y p zero (suc (suc j)) d less below = absurd (omega arith)
pair P x y p (suc i) j d less below = absurd (omega arith)

pub alone : {A : Type 0} (P : A → A → Type 0) (x : A) → AllPairs P (x ∷ [])
alone P x i j d less below = absurd (omega arith)

removed_none : {K X : Type 0} {R : K → K → Ordering} (total : IsTotalOrder R) (same : IsAntisymmetric R) (m : FinMap R X) (k q : K) → finite.get m q ≡ None → finite.get (finite.remove m k) q ≡ None
removed_none total same m k q none =
    elim (key_cases total same q k) [
      | inl is ↦ ap (finite.get (finite.remove m k)) is ∙ get_removed total same m k
      | inr apart ↦ get_not_removed total same m k q apart ∙ none
    ]

-- no wire is at a node that is not there
pub record IsAway (g : NamedGraph) (name : Name) : Type 0 where
  pub node : finite.get g.nodes name ≡ None
  pub into : (port : Port) (source : Port) → finite.get g.feeders port ≡ Some source → port.node ≢ name
  pub from : (port : Port) (source : Port) → finite.get g.feeders port ≡ Some source → source.node ≢ name

pub away_without : (g : NamedGraph) (other name : Name) → IsAway g name → IsAway (without_node g other) name
away_without g other name away =
    record {
      node = removed_none name_total name_same g.nodes other name away.node;
      into = λ port source found. away.into port source (was port source found);
      from = λ port source found. away.from port source (was port source found);
    }
  where
    was : (port source : Port) → finite.get (without_node g other).feeders port ≡ Some source → finite.get g.feeders port ≡ Some source
    was port source found = (found_if _ (finite.get g.feeders port) source (sym (get_retained port_total port_same g.feeders _ port) ∙ found)).1

module _ (g : NamedGraph) (node : Node) (shape : Shape) (buffer : node.kind ≡ Buffer shape) (away : IsAway g node.name) where
  joined : CanWire (with_node g node.name (body_of node)) (record { node = node.name; port = 1 }) (record { node = node.name; port = 1 })
  joined =
      let here = get_inserted name_total name_same g.nodes node.name (body_of node) node.name refl in
      record {
        wire = record {
          from = body_of node;
          to = body_of node;
          shape = shape;
          is_from = here;
          is_to = here;
          leaves = ap (λ kind. port_get (outs kind) 1) buffer;
          enters = ap (λ kind. port_get (ins kind) 1) buffer;
        };
        target_free = at (finite.get g.feeders (record { node = node.name; port = 1 })) refl;
        source_free = λ p found. away.from p (record { node = node.name; port = 1 }) found refl;
      }
    where
      at : (o : Option Port) → finite.get g.feeders (record { node = node.name; port = 1 }) ≡ o → o ≡ None
      at None e = refl
      at (Some source) e = absurd (away.into (record { node = node.name; port = 1 }) source e refl)

module _ (g : GraphValue) (is : IsGraph g) (name : Name) (free : finite.get g.graph.nodes name ≡ None) where
  is_away : IsAway g.graph name
  is_away =
      record {
        node = free;
        into = λ port source found same. let w = is.graph.wires port source found in none-some w.to (sym free ∙ ap (finite.get g.graph.nodes) (sym same) ∙ w.is_to);
        from = λ port source found same. let w = is.graph.wires port source found in none-some w.from (sym free ∙ ap (finite.get g.graph.nodes) (sym same) ∙ w.is_from);
      }

pub can_loop : (g : GraphValue) → IsGraph g → (a b : NodeId) → a ≢ b → (name : Name) × Denotes g a name → (name : Name) × Denotes g b name
    → (node : Node) (shape : Shape) → NodeOk node → node.kind ≡ Buffer shape → finite.get g.graph.nodes node.name ≡ None → CanExchange g (a ∷ b ∷ []) (node ∷ []) ((Fresh 0 1, Fresh 0 1) ∷ [])
can_loop g is a b apart first second node shape ok buffer free =
    let wire : End × End = (Fresh 0 1, Fresh 0 1) in
    let gone : List NodeId = a ∷ b ∷ [] in
    let nodes : List Node = node ∷ [] in
    let left : NamedGraph = without_node (without_node g.graph (name_by g.ids a)) (name_by g.ids b) in
    let away : IsAway left node.name = away_without (without_node g.graph (name_by g.ids a)) (name_by g.ids b) node.name (away_without g.graph (name_by g.ids a) node.name (is_away g is node.name free)) in
    record {
      live = two (λ (id : NodeId). (name : Name) × Denotes g id name) a b first second;
      distinct = pair (λ (i j : NodeId). i ≢ j) a b apart;
      nodes = one NodeOk node ok;
      names = alone (λ (x y : Node). x.name ≢ y.name) node;
      free = one (λ (x : Node). finite.get left.nodes x.name ≡ None) node away.node;
      ends = one (λ (w : End × End). IsAtNode g gone nodes w.0 × IsAtNode g gone nodes w.1) wire (omega arith, omega arith);
      fit = one (λ (w : End × End). CanWire (with_fresh g gone nodes) (end_port g nodes w.0) (end_port g nodes w.1)) wire (joined left node shape buffer away);
      outputs = alone (λ (v w : End × End). end_port g nodes v.0 ≢ end_port g nodes w.0) wire;
      inputs = alone (λ (v w : End × End). end_port g nodes v.1 ≢ end_port g nodes w.1) wire;
    }

nothing : {A : Type 0} (P : A → Type 0) → All P []
nothing P k d below = absurd (omega arith)

no_pairs : {A : Type 0} (P : A → A → Type 0) → AllPairs P []
no_pairs P i j d less below = absurd (omega arith)

pub can_nothing : (g : GraphValue) → CanExchange g [] [] []
can_nothing g =
    record {
      live = nothing (λ (id : NodeId). (name : Name) × Denotes g id name);
      distinct = no_pairs (λ (i j : NodeId). i ≢ j);
      nodes = nothing NodeOk;
      names = no_pairs (λ (x y : Node). x.name ≢ y.name);
      free = nothing (λ (x : Node). finite.get g.graph.nodes x.name ≡ None);
      ends = nothing (λ (w : End × End). IsAtNode g [] [] w.0 × IsAtNode g [] [] w.1);
      fit = nothing (λ (w : End × End). CanWire g.graph (end_port g [] w.0) (end_port g [] w.1));
      outputs = no_pairs (λ (v w : End × End). end_port g [] v.0 ≢ end_port g [] w.0);
      inputs = no_pairs (λ (v w : End × End). end_port g [] v.1 ≢ end_port g [] w.1);
    }

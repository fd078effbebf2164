-- Two nodes that feed each other may take the places of two with the same names.
use Rattle.std.proofs.Common.{◌≡◌, ◌≢◌, Bool, true, false, not, ◌||◌, inl, inr, List, [], ◌∷◌, Option, Some, None, refl, sym, ap, subst, ◌∙◌, arith}
use Rattle.std.proofs.lemmas.Bool.{true≢false}
use Rattle.std.specs.Prelude.{unwrap_or}
use Rattle.std.specs.FinMap as finite
use Rattle.components.specs.declared.kind.Kind.TheVariants.{Buffer}
use Rattle.components.specs.declared.node.Node.{Node}
use Rattle.components.specs.Kind.{Shape, ins, outs}
use Rattle.components.specs.Lookups.{found_if, get_inserted, get_not_inserted, get_removed, get_retained}
use Rattle.components.specs.Name.{Name, Port, port_get}
use Rattle.components.specs.NamedGraph.{NamedGraph, CanWire, is_of, with_node, without_node}
use Rattle.components.specs.Node.{NodeOk, body_of}
use Rattle.components.specs.Orders.{name_total, name_same, port_total, port_same, same_bytes}
use Rattle.graph_core.specs.declared.exchange.End.{End}
use Rattle.graph_core.specs.declared.exchange.End.TheVariants.{Fresh}
use Rattle.graph_core.specs.declared.place.NodeId.{NodeId}
use Rattle.graph_core.specs.GraphValue.{GraphValue, Denotes, IsGraph, name_by}
use Rattle.graph_core.specs.Exchange.{CanExchange, IsAtNode, end_port, with_fresh}
use Rattle.graph_core_tests.proofs.Looped.{two, pair, IsAway, away_without}

neither : (a b : Bool) → not (a || b) ≡ true → (a ≡ false) × (b ≡ false)
neither true b e = absurd (true≢false (sym e))
neither false true e = absurd (true≢false (sym e))
neither false false e = (refl, refl)

-- no wire is at a node that was taken out
away_removed : (g : NamedGraph) (name : Name) → IsAway (without_node g name) name
away_removed g name =
    record {
      node = get_removed name_total name_same g.nodes name;
      into = λ port source found own. true≢false (sym (same_bytes port.node name own) ∙ (kept port source found).0.0);
      from = λ port source found own.
          let (tests, was) = kept port source found in
          true≢false (sym (same_bytes source.node name own) ∙ sym (ap (is_of name) was) ∙ tests.1);
    }
  where
    kept : (port source : Port) → finite.get (without_node g name).feeders port ≡ Some source
        → ((is_of name (Some port) ≡ false) × (is_of name (finite.get g.feeders port) ≡ false)) × (finite.get g.feeders port ≡ Some source)
    kept port source found =
        let (test, was) = found_if _ (finite.get g.feeders port) source (sym (get_retained port_total port_same g.feeders _ port) ∙ found) in
        (neither (is_of name (Some port)) (is_of name (finite.get g.feeders port)) test, was)

module _ (g : NamedGraph) (x y : Node) (shape : Shape) (x_is : x.kind ≡ Buffer shape) (y_is : y.kind ≡ Buffer shape) (apart : x.name ≢ y.name)
    (x_away : IsAway g x.name) (y_away : IsAway g y.name) where
  abbrev both : NamedGraph
  both = with_node (with_node g x.name (body_of x)) y.name (body_of y)

  abbrev port : Node → Port
  port node = record { node = node.name; port = 1 }

  get_x : finite.get both.nodes x.name ≡ Some (body_of x)
  get_x = get_not_inserted name_total name_same (with_node g x.name (body_of x)).nodes y.name (body_of y) x.name apart ∙ get_inserted name_total name_same g.nodes x.name (body_of x) x.name refl

  get_y : finite.get both.nodes y.name ≡ Some (body_of y)
  get_y = get_inserted name_total name_same (with_node g x.name (body_of x)).nodes y.name (body_of y) y.name refl

  joins : (a b : Node) → a.kind ≡ Buffer shape → b.kind ≡ Buffer shape → IsAway g a.name → IsAway g b.name
      → finite.get both.nodes a.name ≡ Some (body_of a) → finite.get both.nodes b.name ≡ Some (body_of b) → CanWire both (port a) (port b)
  joins a b a_is b_is a_away b_away a_there b_there =
      record {
        wire = record {
          from = body_of a;
          to = body_of b;
          shape = shape;
          is_from = a_there;
          is_to = b_there;
          leaves = ap (λ kind. port_get (outs kind) 1) a_is;
          enters = ap (λ kind. port_get (ins kind) 1) b_is;
        };
        target_free = free (finite.get g.feeders (port b)) refl;
        source_free = λ p found. a_away.from p (port a) found refl;
      }
    where
      free : (o : Option Port) → finite.get g.feeders (port b) ≡ o → o ≡ None
      free None e = refl
      free (Some source) e = absurd (b_away.into (port b) source e refl)

pub can_cross : (g : GraphValue) → IsGraph g → (a b : NodeId) → a ≢ b → (x y : Node) (shape : Shape) → Denotes g a x.name → Denotes g b y.name
    → NodeOk x → NodeOk y → x.kind ≡ Buffer shape → y.kind ≡ Buffer shape
    → CanExchange g (a ∷ b ∷ []) (x ∷ y ∷ []) ((Fresh 0 1, Fresh 1 1) ∷ (Fresh 1 1, Fresh 0 1) ∷ [])
can_cross g is a b other x y shape first second x_ok y_ok x_is y_is =
    let there : End × End = (Fresh 0 1, Fresh 1 1) in
    let back : End × End = (Fresh 1 1, Fresh 0 1) in
    let gone : List NodeId = a ∷ b ∷ [] in
    let nodes : List Node = x ∷ y ∷ [] in
    let left : NamedGraph = without_node (without_node g.graph (name_by g.ids a)) (name_by g.ids b) in
    let apart : x.name ≢ y.name = λ same. other (is.alone a b y.name (subst (Denotes g a) same first) second) in
    let name_a : name_by g.ids a ≡ x.name = ap (λ o. unwrap_or o []) first in
    let name_b : name_by g.ids b ≡ y.name = ap (λ o. unwrap_or o []) second in
    let x_away : IsAway left x.name =
    away_without (without_node g.graph (name_by g.ids a)) (name_by g.ids b) x.name (subst (IsAway (without_node g.graph (name_by g.ids a))) name_a (away_removed g.graph (name_by g.ids a))) in
    let y_away : IsAway left y.name = subst (IsAway left) name_b (away_removed (without_node g.graph (name_by g.ids a)) (name_by g.ids b)) in
    let x_there = get_x left x y shape x_is y_is apart x_away y_away in
    let y_there = get_y left x y shape x_is y_is apart x_away y_away in
    let join = joins left x y shape x_is y_is apart x_away y_away in
    record {
      live = two (λ (id : NodeId). (name : Name) × Denotes g id name) a b (x.name, first) (y.name, second);
      distinct = pair (λ (i j : NodeId). i ≢ j) a b other;
      nodes = two NodeOk x y x_ok y_ok;
      names = pair (λ (m n : Node). m.name ≢ n.name) x y apart;
      free = two (λ (n : Node). finite.get left.nodes n.name ≡ None) x y x_away.node y_away.node;
      ends = two (λ (w : End × End). IsAtNode g gone nodes w.0 × IsAtNode g gone nodes w.1) there back (omega arith, omega arith) (omega arith, omega arith);
      fit = two (λ (w : End × End). CanWire (with_fresh g gone nodes) (end_port g nodes w.0) (end_port g nodes w.1)) there back
          (join x y x_is y_is x_away y_away x_there y_there) (join y x y_is x_is y_away x_away y_there x_there);
      outputs = pair (λ (v w : End × End). end_port g nodes v.0 ≢ end_port g nodes w.0) there back (λ same. apart (ap (λ (p : Port). p.node) same));
      inputs = pair (λ (v w : End × End). end_port g nodes v.1 ≢ end_port g nodes w.1) there back (λ same. apart (sym (ap (λ (p : Port). p.node) same)));
    }

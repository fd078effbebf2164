-- Node by node the wires come in order.
use Rattle.std.proofs.Common.{◌≡◌, ℕ, suc, ◌+◌, ◌<◌, ◌≤◌, cond, T, List, [], ◌∷◌, ◌++◌, flat_map, Option, Some, None, Ordering, Less, Equal, Greater, nat_cmp, is_eq, sym, refl, ap, ◌∙◌, subst, append_assoc, arith, lt-ltb, inl, inr, ⊎_elim, zero, ◌⊎◌, ◌==◌}
use Rattle.std.specs.Cmp.{tied_itself}
use Rattle.std.specs.Ordering.{ordering_then}
use Rattle.std.specs.Option.{option_or}
use Rattle.std.specs.FinMap as map
use Rattle.std.specs.FinMap.Entries.{find, is_sorted, below_all, same_entries}
use Rattle.components.specs.Name.{Name, Port, name_cmp, port_cmp, port_get}
use Rattle.components.specs.Kind.{Shape, ins}
use Rattle.components.specs.Node.{Body}
use Rattle.components.specs.NamedGraph.{NamedGraph, IsWire}
use Rattle.graph_print.specs.PrintedWires.{wire_of, wires_from, wires_into}
use Rattle.components.specs.Orders.{name_total, name_same, port_total, port_same}
use Rattle.components.specs.Entries as lists

-- each wire joins an output and an input of nodes of the graph
abbrev pub AreWires : NamedGraph → Type 0
AreWires g = (target source : Port) → map.get g.feeders target ≡ Some source → IsWire g source target

abbrev port_of : Name → ℕ → Port
port_of name number = record { node = name; port = number }

by_name : (p q : Port) → name_cmp p.node q.node ≡ Less → port_cmp p q ≡ Less
by_name p q less = ap (λ r. ordering_then r (nat_cmp p.port q.port)) less

nat_cmp-less : (i j : ℕ) → i < j → nat_cmp i j ≡ Less
nat_cmp-less i j less = ap (λ b. cond b Less (cond (i == j) Equal Greater)) (lt-ltb i j less)

by_number : (name : Name) (i j : ℕ) → i < j → port_cmp (port_of name i) (port_of name j) ≡ Less
by_number name i j less = ap (λ r. ordering_then r (nat_cmp i j)) (tied_itself name_total name) ∙ nat_cmp-less i j less

-- The list is sorted

sorted-wire_of : (target : Port) (source : Option Port) (wires : List (Port × Port)) → T (below_all port_cmp target wires) → T (is_sorted port_cmp wires) → T (is_sorted port_cmp (wire_of target source ++ wires))
sorted-wire_of target None wires below sorted = sorted
sorted-wire_of target (Some source) wires below sorted = lists.both _ _ below sorted

below-wire_of : (p target : Port) (source : Option Port) (wires : List (Port × Port)) → port_cmp p target ≡ Less → T (below_all port_cmp p wires) → T (below_all port_cmp p (wire_of target source ++ wires))
below-wire_of p target None wires less below = below
below-wire_of p target (Some source) wires less below = lists.both _ _ (lists.is_less _ less) below

-- What an option says of two in a row

either_one : {A : Type 0} (p q : Option A) (x : A) → option_or p q ≡ Some x → (p ≡ Some x) ⊎ (q ≡ Some x)
either_one None q x is = inr is
either_one (Some y) q x is = inl is

none_first : {A : Type 0} (p q : Option A) → option_or p q ≡ None → p ≡ None
none_first None q is = refl
none_first (Some y) q is = is

none_second : {A : Type 0} (p q : Option A) → option_or p q ≡ None → q ≡ None
none_second None q is = is
none_second (Some y) q is = absurd (cc)

numbered : {A : Type 0} (xs : List A) (port : ℕ) (x : A) → port_get xs port ≡ Some x → (i : ℕ) × (port ≡ suc i)
numbered [] port x is = absurd (cc)
numbered (y ∷ xs) zero x is = absurd (cc)
numbered (y ∷ xs) (suc i) x is = (i, refl)

module _ (g : NamedGraph) where
  below-wires_from : (p : Port) (name : Name) (number : ℕ) (shapes : List Shape) → ((port : ℕ) → number ≤ port → port_cmp p (port_of name port) ≡ Less) → T (below_all port_cmp p (wires_from g name number shapes))
  below-wires_from p name number [] less = tt
  below-wires_from p name number (shape ∷ shapes) less =
      below-wire_of p (port_of name number) (map.get g.feeders (port_of name number)) _ (less number (omega arith)) (below-wires_from p name (number + 1) shapes (λ port from. less port (omega arith)))

  sorted-wires_from : (name : Name) (number : ℕ) (shapes : List Shape) (wires : List (Port × Port)) → ((port : ℕ) → T (below_all port_cmp (port_of name port) wires)) → T (is_sorted port_cmp wires) → T (is_sorted port_cmp (wires_from g name number shapes ++ wires))
  sorted-wires_from name number [] wires below sorted = sorted
  sorted-wires_from name number (shape ∷ shapes) wires below sorted =
      let target = port_of name number in
      let others = wires_from g name (number + 1) shapes in
      rw append_assoc (sorted-wire_of target (map.get g.feeders target) (others ++ wires)
      (lists.below_all-append port_cmp target others wires (below-wires_from target name (number + 1) shapes (λ port from. by_number name number port (omega arith))) (below number))
      (sorted-wires_from name (number + 1) shapes wires below sorted))

  below-nodes : (p : Port) (nodes : List (Name × Body)) → T (below_all name_cmp p.node nodes) → T (below_all port_cmp p (flat_map (wires_into g) nodes))
  below-nodes p [] below = tt
  below-nodes p (node ∷ nodes) below =
      let less = lists.less _ (lists.first _ _ below) in
      lists.below_all-append port_cmp p (wires_into g node) (flat_map (wires_into g) nodes)
      (below-wires_from p node.0 1 (ins node.1.kind) (λ port from. by_name p (port_of node.0 port) less))
      (below-nodes p nodes (lists.second _ _ below))

  sorted-nodes : (nodes : List (Name × Body)) → T (is_sorted name_cmp nodes) → T (is_sorted port_cmp (flat_map (wires_into g) nodes))
  sorted-nodes [] sorted = tt
  sorted-nodes (node ∷ nodes) sorted =
      sorted-wires_from node.0 1 (ins node.1.kind) (flat_map (wires_into g) nodes) (λ port. below-nodes (port_of node.0 port) nodes (lists.first _ _ sorted)) (sorted-nodes nodes (lists.second _ _ sorted))

  -- What the list has is a wire of the graph

  abbrev AreOfGraph : List (Port × Port) → Type 0
  AreOfGraph wires = (p source : Port) → find port_cmp p wires ≡ Some source → map.get g.feeders p ≡ Some source

  of_graph-append : (es fs : List (Port × Port)) → AreOfGraph es → AreOfGraph fs → AreOfGraph (es ++ fs)
  of_graph-append es fs left right p source found =
      ⊎_elim (left p source) (right p source) (either_one (find port_cmp p es) (find port_cmp p fs) source (sym (lists.find-append port_cmp p es fs) ∙ found))

  of_graph-tied : (p target source here : Port) (r : Ordering) → port_cmp p target ≡ r → map.get g.feeders target ≡ Some here → cond (is_eq r) (Some here) None ≡ Some source → map.get g.feeders p ≡ Some source
  of_graph-tied p target source here Less tied is found = absurd (cc)
  of_graph-tied p target source here Equal tied is found = ap (map.get g.feeders) (port_same p target tied) ∙ is ∙ found
  of_graph-tied p target source here Greater tied is found = absurd (cc)

  of_graph-wire_of : (target : Port) (fed : Option Port) → map.get g.feeders target ≡ fed → AreOfGraph (wire_of target fed)
  of_graph-wire_of target None is p source found = absurd (cc)
  of_graph-wire_of target (Some here) is p source found = of_graph-tied p target source here (port_cmp p target) refl is found

  of_graph-wires_from : (name : Name) (number : ℕ) (shapes : List Shape) → AreOfGraph (wires_from g name number shapes)
  of_graph-wires_from name number [] = λ p source found. absurd (cc)
  of_graph-wires_from name number (shape ∷ shapes) =
      let target = port_of name number in
      of_graph-append (wire_of target (map.get g.feeders target)) (wires_from g name (number + 1) shapes)
      (of_graph-wire_of target (map.get g.feeders target) refl) (of_graph-wires_from name (number + 1) shapes)

  of_graph-nodes : (nodes : List (Name × Body)) → AreOfGraph (flat_map (wires_into g) nodes)
  of_graph-nodes [] = λ p source found. absurd (cc)
  of_graph-nodes (node ∷ nodes) =
      of_graph-append (wires_into g node) (flat_map (wires_into g) nodes) (of_graph-wires_from node.0 1 (ins node.1.kind)) (of_graph-nodes nodes)

  -- No wire of the graph is missed

  module _ (p source : Port) (fed : map.get g.feeders p ≡ Some source) where
    met-wire_of : (target : Port) (wires : List (Port × Port)) → target ≡ p → find port_cmp p (wire_of target (map.get g.feeders target) ++ wires) ≡ Some source
    met-wire_of target wires same =
        ap (λ q. find port_cmp p (wire_of q (map.get g.feeders q) ++ wires)) same ∙ ap (λ o. find port_cmp p (wire_of p o ++ wires)) fed
        ∙ lists.find_first port_cmp port_total (p, source) wires

    met-wires_from : (number i : ℕ) (shapes : List Shape) (shape : Shape) → port_get shapes (suc i) ≡ Some shape → number + i ≡ p.port → find port_cmp p (wires_from g p.node number shapes) ≡ None → ⊥
    met-wires_from number i [] shape is at missed = cc
    met-wires_from number zero (first ∷ shapes) shape is at missed =
        let port : number ≡ p.port = omega arith in
        let met = met-wire_of (port_of p.node number) (wires_from g p.node (number + 1) shapes) (λ i. port_of p.node (port i)) in
        cc
    met-wires_from number (suc i) (first ∷ shapes) shape is at missed =
        let target = port_of p.node number in
        let others = wires_from g p.node (number + 1) shapes in
        let mine = wire_of target (map.get g.feeders target) in
        met-wires_from (number + 1) i shapes shape is (omega arith)
        (none_second (find port_cmp p mine) (find port_cmp p others) (sym (lists.find-append port_cmp p mine others) ∙ missed))

    met-node : (name : Name) (shapes : List Shape) (shape : Shape) → p.node ≡ name → port_get shapes p.port ≡ Some shape → find port_cmp p (wires_from g name 1 shapes) ≡ None → ⊥
    met-node name shapes shape same is missed =
        let number = numbered shapes p.port shape is in
        met-wires_from 1 number.0 shapes shape (ap (port_get shapes) (sym number.1) ∙ is) (omega (arith, number.1)) (subst (λ n. find port_cmp p (wires_from g n 1 shapes) ≡ None) (sym same) missed)

    met-nodes : (nodes : List (Name × Body)) (body : Body) (shape : Shape) → find name_cmp p.node nodes ≡ Some body → port_get (ins body.kind) p.port ≡ Some shape → find port_cmp p (flat_map (wires_into g) nodes) ≡ None → ⊥
    met-nodes [] body shape found is missed = cc
    met-nodes (node ∷ nodes) body shape found is missed =
        let mine = wires_into g node in
        let others = flat_map (wires_into g) nodes in
        let missed_here : option_or (find port_cmp p mine) (find port_cmp p others) ≡ None = sym (lists.find-append port_cmp p mine others) ∙ missed in
        elim (name_cmp p.node node.0) as (λ r. name_cmp p.node node.0 ≡ r → cond (is_eq r) (Some node.1) (find name_cmp p.node nodes) ≡ Some body → ⊥) [
          | Less ↦ λ order there. met-nodes nodes body shape there is (none_second _ _ missed_here)
          | Equal ↦ λ tied there.
              let same : node.1 ≡ body = cc in
              met-node node.0 (ins node.1.kind) shape (name_same p.node node.0 tied) (ap (λ b. port_get (ins b.kind) p.port) same ∙ is) (none_first _ _ missed_here)
          | Greater ↦ λ order there. met-nodes nodes body shape there is (none_second _ _ missed_here)
        ] refl found

  met : AreWires g → (p source : Port) → map.get g.feeders p ≡ Some source → find port_cmp p (flat_map (wires_into g) (map.entries g.nodes)) ≡ None → ⊥
  met wires p source fed =
      let wire = wires p source fed in
      met-nodes p source fed (map.entries g.nodes) wire.to wire.shape (sym (map.get-entries g.nodes p.node) ∙ wire.is_to) wire.enters

  one_answer : (p : Port) (r s : Option Port) → find port_cmp p (flat_map (wires_into g) (map.entries g.nodes)) ≡ r → map.get g.feeders p ≡ s → AreWires g → r ≡ s
  one_answer p (Some source) s found fed wires = sym (of_graph-nodes (map.entries g.nodes) p source found) ∙ fed
  one_answer p None (Some source) found fed wires = absurd (met wires p source fed found)
  one_answer p None None found fed wires = refl

-- node by node the wires come in the byte order of the target's name and by its port
pub wires_in_order : (g : NamedGraph) → AreWires g → flat_map (wires_into g) (map.entries g.nodes) ≡ map.entries g.feeders
wires_in_order g wires =
    same_entries port_cmp port_total port_same (flat_map (wires_into g) (map.entries g.nodes)) (map.entries g.feeders)
    (sorted-nodes g (map.entries g.nodes) (map.entries_sorted g.nodes)) (map.entries_sorted g.feeders)
    (λ q. one_answer g q _ _ refl refl wires ∙ map.get-entries g.feeders q)

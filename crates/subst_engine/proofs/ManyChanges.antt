-- Look-ups in a graph after many changes of one sort.
use Rattle.std.proofs.Common.{◌≡◌, ◌≢◌, ◌⊎◌, inl, inr, zero, suc, Bool, false, not, ◌||◌, cond, List, [], ◌∷◌, map, Some, None, refl, sym, ap, subst, ◌∙◌, arith}
use Rattle.std.specs.List.{All, AllPairs, Contains}
use Rattle.std.specs.Cmp.{IsTotalOrder}
use Rattle.std.specs.FinMap as finite
use Rattle.std.specs.FinMap.{FinMap, IsAntisymmetric}
use Rattle.std.specs.declared.cmp.Ordering.{Ordering}
use Rattle.std.proofs.lemmas.Bool.{or_parts, or_from, true≢false, not-true}
use Rattle.circuits.specs.Replacing.{In, head, tail}
use Rattle.components.specs.declared.node.Node.{Node}
use Rattle.components.specs.Name.{Name, Port}
use Rattle.components.specs.Lookups.{key_cases, found_if, get_inserted, get_not_inserted, get_removed, get_not_removed, get_retained}
use Rattle.components.specs.NamedGraph.{NamedGraph, is_of, without_node}
use Rattle.components.specs.Node.{body_of}
use Rattle.components.specs.Orders.{name_total, name_same, port_total, port_same, name_cases, same_bytes, other_bytes}
use Rattle.graph_core.specs.Exchange.{with_nodes, with_wires, without_nodes}

-- Lists

module _ {A : Type 0} where
  pub in_where_contained : (x : A) (xs : List A) → Contains xs x → In x xs
  in_where_contained x [] (k, below, is) = absurd (omega arith)
  in_where_contained x (y ∷ ys) (zero, below, is) = head (sym is)
  in_where_contained x (y ∷ ys) (suc k, below, is) = tail (in_where_contained x ys (k, omega arith, is))

  pub contained_where_in : (x : A) (xs : List A) → In x xs → Contains xs x
  contained_where_in x [] there = elim there [ ]
  contained_where_in x (y ∷ ys) (head is) = (0, omega arith, sym is)
  contained_where_in x (y ∷ ys) (tail there) = let (k, below, is) = contained_where_in x ys there in (suc k, omega arith, is)

  pub each_in : (P : A → Type 0) (xs : List A) → All P xs → (x : A) → In x xs → P x
  each_in P [] all x there = elim there [ ]
  each_in P (y ∷ ys) all x (head is) = subst P (sym is) (all 0 x (omega arith))
  each_in P (y ∷ ys) all x (tail there) = each_in P ys (λ k d below. all (suc k) d (omega arith)) x there

  pub all_in : (P : A → Type 0) (xs : List A) → ((x : A) → In x xs → P x) → All P xs
  all_in P [] each k d below = absurd (omega arith)
  all_in P (y ∷ ys) each zero d below = each y (head refl)
  all_in P (y ∷ ys) each (suc k) d below = all_in P ys (λ x there. each x (tail there)) k d (omega arith)

  pub in_mapped : {B : Type 0} (f : A → B) (xs : List A) (x : A) → In x xs → In (f x) (map f xs)
  in_mapped f [] x there = elim there [ ]
  in_mapped f (y ∷ ys) x (head is) = head (ap f is)
  in_mapped f (y ∷ ys) x (tail there) = tail (in_mapped f ys x there)

  pub mapped_in : {B : Type 0} (f : A → B) (xs : List A) (z : B) → In z (map f xs) → (x : A) × In x xs × (z ≡ f x)
  mapped_in f [] z there = elim there [ ]
  mapped_in f (y ∷ ys) z (head is) = (y, head refl, is)
  mapped_in f (y ∷ ys) z (tail there) = let (x, within, is) = mapped_in f ys z there in (x, tail within, is)

-- Entries that are put in one after another, no two under one key

module _ {K X A : Type 0} {R : K → K → Ordering} (o : IsTotalOrder R) (same : IsAntisymmetric R) (key : A → K) (value : A → X) where
  abbrev pub inserted : FinMap R X → List A → FinMap R X
  inserted m [] = m
  inserted m (x ∷ xs) = inserted (finite.insert m (key x) (value x)) xs

  pub get_away : (m : FinMap R X) (xs : List A) (q : K) → ((x : A) → In x xs → key x ≢ q) → finite.get (inserted m xs) q ≡ finite.get m q
  get_away m [] q away = refl
  get_away m (x ∷ xs) q away =
      get_away (finite.insert m (key x) (value x)) xs q (λ y there. away y (tail there))
      ∙ get_not_inserted o same m (key x) (value x) q (λ is. away x (head refl) (sym is))

  pub get_here : (m : FinMap R X) (xs : List A) → AllPairs (λ x y. key x ≢ key y) xs → (x : A) → In x xs → finite.get (inserted m xs) (key x) ≡ Some (value x)
  get_here m [] apart x there = elim there [ ]
  get_here m (y ∷ ys) apart x (head is) =
      get_away (finite.insert m (key y) (value y)) ys (key x) (λ z there e.
      each_in (λ z. key y ≢ key z) ys (λ k d below. apart 0 (suc k) d (omega arith) (omega arith)) z there (sym (ap key is) ∙ sym e))
      ∙ get_inserted o same m (key y) (value y) (key x) (ap key is) ∙ ap (λ z. Some (value z)) (sym is)
  get_here m (y ∷ ys) apart x (tail there) =
      get_here (finite.insert m (key y) (value y)) ys (λ i j d less below. apart (suc i) (suc j) d (omega arith) (omega arith)) x there

  -- an entry with this key, or none
  pub look : (q : K) (xs : List A) → ((x : A) × In x xs × (key x ≡ q)) ⊎ ((x : A) → In x xs → key x ≢ q)
  look q [] = inr (λ x there. elim there [ ])
  look q (x ∷ xs) = elim (key_cases o same (key x) q) [
    | inl is ↦ inl (x, head refl, is)
    | inr apart ↦ elim (look q xs) [
      | inl found ↦ inl (found.0, tail found.1, found.2)
      | inr none ↦ inr (none_too x xs apart none)
    ]
  ]
    where
      none_too : (x : A) (xs : List A) → key x ≢ q → ((y : A) → In y xs → key y ≢ q) → (y : A) → In y (x ∷ xs) → key y ≢ q
      none_too x xs apart none y (head is) e = apart (ap key (sym is) ∙ e)
      none_too x xs apart none y (tail there) e = none y there e

-- Nodes and wires that are added

pub nodes_added : (g : NamedGraph) (fresh : List Node) → (with_nodes g fresh).nodes ≡ inserted name_total name_same (λ node. node.name) body_of g.nodes fresh
nodes_added g [] = refl
nodes_added g (node ∷ fresh) = nodes_added (record g { nodes = finite.insert g.nodes node.name (body_of node) }) fresh

pub same_feeders : (g : NamedGraph) (fresh : List Node) → (with_nodes g fresh).feeders ≡ g.feeders
same_feeders g [] = refl
same_feeders g (node ∷ fresh) = same_feeders (record g { nodes = finite.insert g.nodes node.name (body_of node) }) fresh

abbrev pub target_of : Port × Port → Port
target_of wire = wire.1

abbrev pub source_of : Port × Port → Port
source_of wire = wire.0

pub wires_added : (g : NamedGraph) (wires : List (Port × Port)) → (with_wires g wires).feeders ≡ inserted port_total port_same target_of source_of g.feeders wires
wires_added g [] = refl
wires_added g (wire ∷ wires) = wires_added (record g { feeders = finite.insert g.feeders wire.1 wire.0 }) wires

pub same_nodes : (g : NamedGraph) (wires : List (Port × Port)) → (with_wires g wires).nodes ≡ g.nodes
same_nodes g [] = refl
same_nodes g (wire ∷ wires) = same_nodes (record g { feeders = finite.insert g.feeders wire.1 wire.0 }) wires

-- Nodes that are taken out

module _ (g : NamedGraph) (name : Name) where
  abbrev touches : Port → Bool
  touches p = is_of name (Some p) || is_of name (finite.get g.feeders p)

  feeder_left : (p : Port) → finite.get (without_node g name).feeders p ≡ cond (not (touches p)) (finite.get g.feeders p) None
  feeder_left p = get_retained port_total port_same g.feeders (λ q. not (touches q)) p

  left_one : (p s : Port) → finite.get g.feeders p ≡ Some s → p.node ≢ name → s.node ≢ name → finite.get (without_node g name).feeders p ≡ Some s
  left_one p s fed p_other s_other =
      let apart : touches p ≡ false = or_from _ _ (other_bytes p.node name p_other) (ap (is_of name) fed ∙ other_bytes s.node name s_other) in
      feeder_left p ∙ ap (λ b. cond (not b) (finite.get g.feeders p) None) apart ∙ fed

  pub record WasFed (p s : Port) : Type 0 where
    pub fed : finite.get g.feeders p ≡ Some s
    pub target : p.node ≢ name
    pub source : s.node ≢ name

  was_fed : (p s : Port) → finite.get (without_node g name).feeders p ≡ Some s → WasFed p s
  was_fed p s fed =
      let found = found_if (not (touches p)) (finite.get g.feeders p) s (sym (feeder_left p) ∙ fed) in
      let parts = or_parts _ _ (not-true (touches p) found.0) in
      record {
        fed = found.1;
        target = λ is. true≢false (sym (same_bytes p.node name is) ∙ parts.0);
        source = λ is. true≢false (sym (ap (is_of name) found.1 ∙ same_bytes s.node name is) ∙ parts.1);
      }

none_stays : (g : NamedGraph) (names : List Name) (n : Name) → finite.get g.nodes n ≡ None → finite.get (without_nodes g names).nodes n ≡ None
none_stays g [] n none = none
none_stays g (name ∷ names) n none = none_stays (without_node g name) names n (elim (name_cases n name) [
  | inl is ↦ ap (finite.get (finite.remove g.nodes name)) is ∙ get_removed name_total name_same g.nodes name
  | inr other ↦ get_not_removed name_total name_same g.nodes name n other ∙ none
])

pub none_left : (g : NamedGraph) (names : List Name) (n : Name) → (In n names ⊎ (finite.get g.nodes n ≡ None)) → finite.get (without_nodes g names).nodes n ≡ None
none_left g names n (inr none) = none_stays g names n none
none_left g [] n (inl there) = elim there [ ]
none_left g (name ∷ names) n (inl (head is)) = none_stays (without_node g name) names n (ap (finite.get (finite.remove g.nodes name)) is ∙ get_removed name_total name_same g.nodes name)
none_left g (name ∷ names) n (inl (tail there)) = none_left (without_node g name) names n (inl there)

pub node_left : (g : NamedGraph) (names : List Name) (n : Name) → ¬ (In n names) → finite.get (without_nodes g names).nodes n ≡ finite.get g.nodes n
node_left g [] n away = refl
node_left g (name ∷ names) n away =
    node_left (without_node g name) names n (λ there. away (tail there)) ∙ get_not_removed name_total name_same g.nodes name n (λ is. away (head is))

pub wire_left : (g : NamedGraph) (names : List Name) (p s : Port) → finite.get g.feeders p ≡ Some s → ¬ (In p.node names) → ¬ (In s.node names) → finite.get (without_nodes g names).feeders p ≡ Some s
wire_left g [] p s fed p_away s_away = fed
wire_left g (name ∷ names) p s fed p_away s_away =
    wire_left (without_node g name) names p s (left_one g name p s fed (λ is. p_away (head is)) (λ is. s_away (head is))) (λ there. p_away (tail there)) (λ there. s_away (tail there))

-- a wire that is left is one of the graph between nodes that are left
pub record IsLeft (g : NamedGraph) (names : List Name) (p s : Port) : Type 0 where
  pub fed : finite.get g.feeders p ≡ Some s
  pub target : ¬ (In p.node names)
  pub source : ¬ (In s.node names)

neither : (n name : Name) (names : List Name) → n ≢ name → ¬ (In n names) → In n (name ∷ names) → ⊥
neither n name names other away (head is) = other is
neither n name names other away (tail there) = away there

pub is_left : (g : NamedGraph) (names : List Name) (p s : Port) → finite.get (without_nodes g names).feeders p ≡ Some s → IsLeft g names p s
is_left g [] p s fed = record { fed = fed; target = λ there. elim there [ ]; source = λ there. elim there [ ] }
is_left g (name ∷ names) p s fed =
    let later = is_left (without_node g name) names p s fed in
    let first = was_fed g name p s later.fed in
    record {
      fed = first.fed;
      target = neither p.node name names first.target later.target;
      source = neither s.node name names first.source later.source;
    }

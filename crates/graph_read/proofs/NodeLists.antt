-- A graph without wires gains the node of the next statement.
use Rattle.std.proofs.Common.{◌≡◌, ◌≢◌, inl, inr, ℕ, zero, suc, ◌+◌, ◌≤◌, ◌<◌, false, cond, List, [], ◌∷◌, ◌++◌, length, map, max, get_or, take, drop, slice_get, Some, None, is_some, Ok, refl, sym, ap, subst, ◌∙◌, arith, nat_eq}
use Rattle.std.specs.Option.{option_map}
use Rattle.std.specs.FinMap as finite
use Rattle.std.proofs.lemmas.Bool.{cases_Bool, true≢false}
use Rattle.std.proofs.lemmas.Bool.Decides.{Decides-eqb}
use Rattle.std.proofs.lemmas.Option.{none-some, same_Some}
use Rattle.std.proofs.lemmas.List.{map-append, drop_more, take_more, length-map, length-take-le, take_all, drop_all}
use Rattle.dot_text.specs.declared.doc.DocNode.{DocNode}
use Rattle.components.specs.Name.{Name, name_cmp}
use Rattle.components.specs.Node.{Body, body_of}
use Rattle.components.specs.Lookups.{get_inserted, get_not_inserted}
use Rattle.components.specs.Orders.{name_total, name_same}
use Rattle.graph_core.specs.Place.{index_of, id_of}
use Rattle.graph_core.specs.GraphValue.{GraphValue, no_nodes}
use Rattle.graph_read.specs.NodeReading.{NodeReading, node_reading}
use Rattle.graph_read.specs.GraphReading.{then_read, names_of, nodes_reading}
use Rattle.graph_read.specs.GraphSteps.{AreNodesOf, IsReadTo, StandInOrder, HasGained}
use Rattle.graph_core.specs.Ids.{id_total, id_same}

-- the statements before this one have been read, with a node and a slot for each
pub record IsReadSoFar (statements : List DocNode) (i : ℕ) (g : GraphValue) : Type 0 where
  pub nodes : List (Name × Body)
  pub rest : nodes_reading [] 1 statements ≡ nodes_reading nodes (i + 1) (drop i statements)
  pub is : IsReadTo (take i statements) nodes g
  pub full : finite.len g.ids ≡ i
  pub slots : g.slots ≡ i
  pub few : i ≤ 65536

pub none_read : (statements : List DocNode) → IsReadSoFar statements 0 no_nodes
none_read statements =
    record {
      nodes = [];
      rest = refl;
      is = record {
        are = record { map = refl; each = λ i node at. absurd (none-some node at); ids = λ i. finite.get-empty _ (id_of i) };
        names = refl;
        feeders = refl;
      };
      full = finite.len-empty _ _;
      slots = refl;
      few = omega arith;
    }

-- The last of a list

get_last : {A : Type 0} (xs : List A) (x : A) → slice_get (xs ++ x ∷ []) (length xs) ≡ Some x
get_last [] x = refl
get_last (y ∷ ys) x = get_last ys x

get_before : {A : Type 0} (xs : List A) (x : A) (i : ℕ) → i ≢ length xs → slice_get (xs ++ x ∷ []) i ≡ slice_get xs i
get_before [] x zero other = absurd (other refl)
get_before [] x (suc i) other = refl
get_before (y ∷ ys) x zero other = refl
get_before (y ∷ ys) x (suc i) other = get_before ys x i (λ e. other (ap suc e))

not_at : (i j : ℕ) → nat_eq i j ≡ false → i ≢ j
not_at i j other same = true≢false (sym ((Decides-eqb i j).1 same) ∙ other)

-- One statement on

next_read : (nodes : List (Name × Body)) (place : ℕ) (statement : DocNode) (statements : List DocNode) (body : Body) → node_reading (names_of nodes) place statement ≡ Ok body →
    nodes_reading nodes place (statement ∷ statements) ≡ nodes_reading (nodes ++ (statement.name, body) ∷ []) (place + 1) statements
next_read nodes place statement statements body read =
    ap (λ (found : NodeReading). then_read place statement.name found (λ (b : Body). nodes_reading (nodes ++ (statement.name, b) ∷ []) (place + 1) statements)) read

module _ (statements : List DocNode) (i : ℕ) (old new : GraphValue) (statement : DocNode) (within : i < length statements) (is : statement ≡ get_or statements i statement) (so_far : IsReadSoFar statements i old)
    (gained : HasGained (node_reading (names_of so_far.nodes) (i + 1) statement) statement.name (i + 1) old new) where
  abbrev node : Name × Body
  node = (statement.name, body_of gained.node)

  abbrev more : List (Name × Body)
  more = so_far.nodes ++ node ∷ []

  long : length so_far.nodes ≡ i
  long =
      let named : length (names_of so_far.nodes) ≡ length so_far.nodes = length-map so_far.nodes (λ (n : Name × Body). n.0) in
      let told : length (map (λ (s : DocNode). s.name) (take i statements)) ≡ length (take i statements) = length-map (take i statements) (λ (s : DocNode). s.name) in
      sym named ∙ ap length so_far.is.names ∙ told ∙ length-take-le i statements (omega (arith, within))

  id_is : gained.id ≡ id_of i
  id_is = ap id_of (gained.is_next (so_far.full ∙ sym so_far.slots) ∙ so_far.slots)

  nodes_are : new.graph.nodes ≡ finite.insert old.graph.nodes statement.name (body_of gained.node)
  nodes_are = ap (λ (g : GraphValue). g.graph.nodes) gained.is_new ∙ ap (λ (name : Name). finite.insert old.graph.nodes name (body_of gained.node)) gained.is_name

  ids_are : new.ids ≡ finite.insert old.ids (id_of i) statement.name
  ids_are = ap (λ (g : GraphValue). g.ids) gained.is_new ∙ (λ j. finite.insert old.ids (id_is j) (gained.is_name j))

  is_fresh : finite.get old.ids (id_of i) ≡ None
  is_fresh = ap (finite.get old.ids) (sym id_is) ∙ gained.is_fresh

  one_longer : finite.len (finite.insert old.ids (id_of i) statement.name) ≡ i + 1
  one_longer = finite.len-insert id_total old.ids (id_of i) statement.name ∙ (λ j. cond (is_some (is_fresh j)) (so_far.full j) (so_far.full j + 1))

  map_more : new.graph.nodes ≡ finite.from_entries {R = name_cmp} more
  map_more =
      let none : finite.find name_cmp statement.name so_far.nodes ≡ None =
      sym (finite.get-from_entries name_total so_far.nodes statement.name) ∙ ap (λ (m : finite.FinMap name_cmp Body). finite.get m statement.name) (sym so_far.is.are.map) ∙ gained.no_other in
      nodes_are ∙ ap (λ (m : finite.FinMap name_cmp Body). finite.insert m statement.name (body_of gained.node)) so_far.is.are.map
      ∙ sym (finite.from_entries_push name_total name_same so_far.nodes statement.name (body_of gained.node) none)

  each_more : (j : ℕ) (n : Name × Body) → slice_get more j ≡ Some n → finite.get new.graph.nodes n.0 ≡ Some n.1
  each_more j n at = elim (cases_Bool (nat_eq j (length so_far.nodes))) [
    | inl one ↦
        let here : n ≡ node = sym (same_Some node n (sym (get_last so_far.nodes node) ∙ ap (slice_get more) (sym ((Decides-eqb j (length so_far.nodes)).0 one)) ∙ at)) in
        ap (λ (m : finite.FinMap name_cmp Body). finite.get m n.0) nodes_are
        ∙ get_inserted name_total name_same old.graph.nodes statement.name (body_of gained.node) n.0 (ap (λ (x : Name × Body). x.0) here)
        ∙ ap (λ (x : Name × Body). Some x.1) (sym here)
    | inr two ↦
        let found = so_far.is.are.each j n (sym (get_before so_far.nodes node j (not_at j (length so_far.nodes) two)) ∙ at) in
        let other : n.0 ≢ statement.name = λ same. none-some n.1 (sym gained.no_other ∙ ap (finite.get old.graph.nodes) (sym same) ∙ found) in
        ap (λ (m : finite.FinMap name_cmp Body). finite.get m n.0) nodes_are
        ∙ get_not_inserted name_total name_same old.graph.nodes statement.name (body_of gained.node) n.0 other ∙ found
  ]

  ids_more : (j : ℕ) → finite.get new.ids (id_of j) ≡ option_map (λ (n : Name × Body). n.0) (slice_get more j)
  ids_more j = elim (cases_Bool (nat_eq j i)) [
    | inl one ↦
        let at : j ≡ i = (Decides-eqb j i).0 one in
        ap (λ (m : finite.FinMap _ Name). finite.get m (id_of j)) ids_are ∙ get_inserted id_total id_same old.ids (id_of i) statement.name (id_of j) (ap id_of at)
        ∙ ap (option_map (λ (n : Name × Body). n.0)) (sym (ap (slice_get more) (at ∙ sym long) ∙ get_last so_far.nodes node))
    | inr two ↦
        let other : j ≢ i = not_at j i two in
        ap (λ (m : finite.FinMap _ Name). finite.get m (id_of j)) ids_are ∙ get_not_inserted id_total id_same old.ids (id_of i) statement.name (id_of j) (λ same. other (ap index_of same))
        ∙ so_far.is.are.ids j ∙ ap (option_map (λ (n : Name × Body). n.0)) (sym (get_before so_far.nodes node j (λ same. other (same ∙ long))))
  ]

  pub one_more_read : IsReadSoFar statements (i + 1) new
  one_more_read =
      let taken : take (i + 1) statements ≡ take i statements ++ statement ∷ [] = take_more statements i statement within ∙ ap (λ (s : DocNode). take i statements ++ s ∷ []) (sym is) in
      let left : drop i statements ≡ statement ∷ drop (i + 1) statements = drop_more statements i statement within ∙ ap (λ (s : DocNode). s ∷ drop (i + 1) statements) (sym is) in
      let longer : finite.len new.ids ≡ i + 1 = ap (λ (m : finite.FinMap _ Name). finite.len m) ids_are ∙ one_longer in
      record {
        nodes = more;
        rest = so_far.rest ∙ ap (nodes_reading so_far.nodes (i + 1)) left ∙ next_read so_far.nodes (i + 1) statement (drop (i + 1) statements) (body_of gained.node) gained.is_read;
        is = record {
          are = record { map = map_more; each = each_more; ids = ids_more };
          names =
              map-append (λ (n : Name × Body). n.0) so_far.nodes (node ∷ []) ∙ ap (λ (names : List Name). names ++ statement.name ∷ []) so_far.is.names
              ∙ sym (map-append (λ (s : DocNode). s.name) (take i statements) (statement ∷ [])) ∙ ap (map (λ (s : DocNode). s.name)) (sym taken);
          feeders = ap (λ (g : GraphValue). g.graph.feeders) gained.is_new ∙ so_far.is.feeders;
        };
        full = longer;
        slots = ap (λ (g : GraphValue). g.slots) gained.is_new ∙ (λ j. max (so_far.slots j) (finite.len (finite.insert old.ids (id_is j) (gained.is_name j)))) ∙ ap (max i) one_longer ∙ omega arith;
        few = gained.few;
      }

-- The order of the nodes

got_name : (nodes : List (Name × Body)) (statements : List DocNode) → names_of nodes ≡ map (λ (s : DocNode). s.name) statements → (i : ℕ) →
    option_map (λ (n : Name × Body). n.0) (slice_get nodes i) ≡ option_map (λ (s : DocNode). s.name) (slice_get statements i)
got_name nodes statements same i = sym (got_mapped (λ (n : Name × Body). n.0) nodes i) ∙ ap (λ (names : List Name). slice_get names i) same ∙ got_mapped (λ (s : DocNode). s.name) statements i
  where
    got_mapped : {A : Type 0} (f : A → Name) (xs : List A) (i : ℕ) → slice_get (map f xs) i ≡ option_map f (slice_get xs i)
    got_mapped f [] i = refl
    got_mapped f (x ∷ xs) zero = refl
    got_mapped f (x ∷ xs) (suc i) = got_mapped f xs i

-- All statements read, and one that is refused

pub all_read : (statements : List DocNode) (i : ℕ) (g : GraphValue) → length statements ≤ i → IsReadSoFar statements i g → (nodes : List (Name × Body)) × (nodes_reading [] 1 statements ≡ Ok nodes) × IsReadTo statements nodes g
all_read statements i g past so_far = (
  so_far.nodes,
  so_far.rest ∙ ap (nodes_reading so_far.nodes (i + 1)) (drop_all i statements past),
  subst (λ (ss : List DocNode). IsReadTo ss so_far.nodes g) (take_all i statements past) so_far.is,
)

pub in_order : (nodes : List (Name × Body)) (statements : List DocNode) (g : GraphValue) → AreNodesOf nodes g → names_of nodes ≡ map (λ (s : DocNode). s.name) statements → StandInOrder g statements
in_order nodes statements g are names i = are.ids i ∙ got_name nodes statements names i

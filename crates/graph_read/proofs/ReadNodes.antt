-- What nodes that are read have. That a node is one of a list is said by `Contains`.
use Rattle.std.proofs.Common.{◌≡◌, ◌≢◌, ℕ, ◌+◌, ◌≤◌, suc, Bool, true, false, cond, ◌||◌, List, [], ◌∷◌, ◌++◌, length, length-append, le_trans, All, Contains, Some, Ok, Err, refl, sym, ap, subst, ◌∙◌, arith}
use Rattle.std.specs.Prelude.{bytes_eq}
use Rattle.std.specs.List.{AllPairs, list_any, AllByRecursion}
use Rattle.std.specs.Cmp.{Equal-is}
use Rattle.std.specs.FinMap as map
use Rattle.std.specs.Str.{IsUtf8}
use Rattle.std.proofs.lemmas.Bool.{true≢false}
use Rattle.std.proofs.lemmas.List.Elements.{All-nil, All-cons, All-push, All-contains}
use Rattle.std.proofs.lemmas.List.Quantifiers.{all_pairs_push}
use Rattle.std.proofs.lemmas.Map.Views.{Contains-from_lookup}
use Rattle.std.proofs.lemmas.Slice.Eq.{bytes_eq-Decides}
use Rattle.port_types.specs.PortLaws.{ReadsPorts}
use Rattle.dot_text.specs.declared.doc.DocNode.{DocNode}
use Rattle.dot_text.specs.Texts.{NodeTexts}
use Rattle.components.specs.Kind.{KindOk}
use Rattle.components.specs.Name.{Name, name_cmp, IsName}
use Rattle.components.specs.Node.{Body}
use Rattle.graph_read.specs.NodeReading.{NodeReading, node_reading}
use Rattle.graph_read.specs.GraphReading.{refusal, then_read, names_of, nodes_reading}
use Rattle.graph_read.specs.Laws.{RowsAreMet}
use Rattle.components.specs.Orders.{name_total, name_same}
use Rattle.graph_read.proofs.Names.{name_to}
use Rattle.graph_read.proofs.Answers.{same_answer, refused}
use Rattle.graph_read.proofs.NodeRead.{IsRead, node_is_read, kind_is_ok}

-- Statement after statement

-- what holds of the nodes before a place, with what is known of each statement, holds of all
module _ (Known : DocNode → Type 0) (Holds : List (Name × Body) → ℕ → Type 0)
    (next : (nodes : List (Name × Body)) (place : ℕ) (statement : DocNode) (body : Body) → Known statement → Holds nodes place → IsRead (names_of nodes) place statement body →
    Holds (nodes ++ (statement.name, body) ∷ []) (place + 1)) where
  -- at the place behind the last
  abbrev AtEnd : List (Name × Body) → Type 0
  AtEnd all = (place : ℕ) × Holds all place

  one_on : (nodes : List (Name × Body)) (place : ℕ) (statement : DocNode) (statements : List DocNode) (all : List (Name × Body)) → Known statement → Holds nodes place →
      ((more : List (Name × Body)) → Holds more (place + 1) → nodes_reading more (place + 1) statements ≡ Ok all → AtEnd all) →
      (found : NodeReading) → node_reading (names_of nodes) place statement ≡ found →
      then_read place statement.name found (λ (body : Body). nodes_reading (nodes ++ (statement.name, body) ∷ []) (place + 1) statements) ≡ Ok all → AtEnd all
  one_on nodes place statement statements all known holds later (Err fault) is read = refused (refusal fault place statement.name) all read
  one_on nodes place statement statements all known holds later (Ok body) is read =
      later (nodes ++ (statement.name, body) ∷ []) (next nodes place statement body known holds (node_is_read (names_of nodes) place statement body is)) read

  holds_on : (nodes : List (Name × Body)) (place : ℕ) (statements : List DocNode) (all : List (Name × Body)) → AllByRecursion Known statements → Holds nodes place →
      nodes_reading nodes place statements ≡ Ok all → AtEnd all
  holds_on nodes place [] all known holds read = (place, subst (λ (found : List (Name × Body)). Holds found place) (same_answer nodes all read) holds)
  holds_on nodes place (statement ∷ statements) all known holds read =
      one_on nodes place statement statements all known.0 holds (λ more behind. holds_on more (place + 1) statements all known.1 behind)
      (node_reading (names_of nodes) place statement) refl read

nothing_known : (statements : List DocNode) → AllByRecursion (λ statement. Unit {0}) statements
nothing_known [] = tt
nothing_known (statement ∷ statements) = (tt, nothing_known statements)

-- The entries of the map

-- what is found under a name is a node of the list
pub nodes_entries : (nodes : List (Name × Body)) (name : Name) (body : Body) → map.get (map.from_entries {R = name_cmp} nodes) name ≡ Some body → Contains nodes (name, body)
nodes_entries nodes name body found =
    Contains-from_lookup (λ a b test. name_same a b ((Equal-is (name_cmp a b)).0 test)) name body nodes (sym (map.get-from_entries name_total nodes name) ∙ found)

-- what holds of each node that is read holds of what is found under a name
module _ (Known : DocNode → Type 0) (IsSo : Name × Body → Type 0)
    (tells : (earlier : List Name) (place : ℕ) (statement : DocNode) (body : Body) → Known statement → IsRead earlier place statement body → IsSo (statement.name, body))
    (statements : List DocNode) (nodes : List (Name × Body)) (known : AllByRecursion Known statements) (read : nodes_reading [] 1 statements ≡ Ok nodes) where
  each_so : All IsSo nodes
  each_so =
      (holds_on Known (λ before place. All IsSo before)
      (λ before place statement body is_known so is. All-push IsSo before (statement.name, body) so (tells (names_of before) place statement body is_known is)) [] 1 statements nodes known
      (All-nil IsSo) read).1

  found_so : (name : Name) (body : Body) → map.get (map.from_entries {R = name_cmp} nodes) name ≡ Some body → IsSo (name, body)
  found_so name body found = All-contains IsSo nodes (name, body) each_so (nodes_entries nodes name body found)

-- each kind that is read meets its row
pub nodes_kinds : (statements : List DocNode) (nodes : List (Name × Body)) → nodes_reading [] 1 statements ≡ Ok nodes → ReadsPorts → RowsAreMet →
    (name : Name) (body : Body) → map.get (map.from_entries {R = name_cmp} nodes) name ≡ Some body → KindOk body.kind
nodes_kinds statements nodes read says_ports rows =
    found_so (λ statement. Unit {0}) (λ node. KindOk node.1.kind) (λ earlier place statement body known is. kind_is_ok says_ports rows statement.pairs body.kind is.kind) statements nodes
    (nothing_known statements) read

-- each name that is read is allowed
pub nodes_named : (statements : List DocNode) (nodes : List (Name × Body)) → nodes_reading [] 1 statements ≡ Ok nodes → AllByRecursion (NodeTexts IsUtf8) statements →
    (name : Name) (body : Body) → map.get (map.from_entries {R = name_cmp} nodes) name ≡ Some body → IsName name
nodes_named statements nodes read texts =
    found_so (NodeTexts IsUtf8) (λ node. IsName node.0) (λ earlier place statement body known is. name_to statement.name known.0 is.named) statements nodes texts read

-- How many there are

at_most_one_more : (test : Bool) (n m : ℕ) → n ≤ m → cond test n (n + 1) ≤ suc m
at_most_one_more true n m few = omega (arith, few)
at_most_one_more false n m few = omega (arith, few)

-- a map has no more entries than its list
few_entries : (nodes : List (Name × Body)) → map.len (map.from_entries {R = name_cmp} nodes) ≤ length nodes
few_entries [] = omega (arith, map.len-empty name_cmp Body)
few_entries (node ∷ nodes) =
    let before = map.from_entries {R = name_cmp} nodes in
    subst (λ (n : ℕ). n ≤ suc (length nodes)) (sym (map.len-insert name_total before node.0 node.1))
    (at_most_one_more (map.contains_key before node.0) (map.len before) (length nodes) (few_entries nodes))

-- they are as many as the places before this one
abbrev AreFew : List (Name × Body) → ℕ → Type 0
AreFew nodes place = (length nodes + 1 ≡ place) × (length nodes ≤ 65536)

one_more_few : (nodes : List (Name × Body)) (place : ℕ) (node : Name × Body) → AreFew nodes place → place ≤ 65536 → AreFew (nodes ++ node ∷ []) (place + 1)
one_more_few nodes place node are few =
    let more = length-append nodes (node ∷ []) in
    let count = are.0 in (omega (arith, more, count), omega (arith, more, count, few))

-- no more nodes than the limit
few_nodes : (statements : List DocNode) (nodes : List (Name × Body)) → nodes_reading [] 1 statements ≡ Ok nodes → length nodes ≤ 65536
few_nodes statements nodes read =
    (holds_on (λ statement. Unit {0}) AreFew (λ before place statement body known are is. one_more_few before place (statement.name, body) are is.few) [] 1 statements nodes
    (nothing_known statements) (omega arith, omega arith) read).1.1

pub nodes_few : (statements : List DocNode) (nodes : List (Name × Body)) → nodes_reading [] 1 statements ≡ Ok nodes → map.len (map.from_entries {R = name_cmp} nodes) ≤ 65536
nodes_few statements nodes read = le_trans (few_entries nodes) (few_nodes statements nodes read)

-- Different names

apart : (name other : Name) (tail : Bool) → (bytes_eq name other || tail) ≡ false → (other ≢ name) × (tail ≡ false)
apart name other tail none =
    (λ same. true≢false (sym (ap (λ (test : Bool). test || tail) ((bytes_eq-Decides name other).1 (sym same))) ∙ none), or_second (bytes_eq name other) tail none)
  where
    or_second : (a b : Bool) → (a || b) ≡ false → b ≡ false
    or_second true b e = absurd (true≢false e)
    or_second false b e = e

-- the names are pairwise different
abbrev AreApart : List (Name × Body) → Type 0
AreApart nodes = AllPairs (λ a b. a.0 ≢ b.0) nodes

all_other : (name : Name) (nodes : List (Name × Body)) → list_any (bytes_eq name) (names_of nodes) ≡ false → All (λ node. node.0 ≢ name) nodes
all_other name [] new = All-nil (λ (node : Name × Body). node.0 ≢ name)
all_other name (node ∷ nodes) new =
    let parts = apart name node.0 (list_any (bytes_eq name) (names_of nodes)) new in All-cons (λ (n : Name × Body). n.0 ≢ name) node nodes parts.0 (all_other name nodes parts.1)

one_more_apart : (nodes : List (Name × Body)) (name : Name) (body : Body) → AreApart nodes → list_any (bytes_eq name) (names_of nodes) ≡ false → AreApart (nodes ++ (name, body) ∷ [])
one_more_apart nodes name body are new = all_pairs_push (λ a b. a.0 ≢ b.0) nodes (name, body) are (all_other name nodes new)

-- no two nodes that are read have one name
pub nodes_apart : (statements : List DocNode) (nodes : List (Name × Body)) → nodes_reading [] 1 statements ≡ Ok nodes → AllPairs (λ a b. a.0 ≢ b.0) nodes
nodes_apart statements nodes read =
    (holds_on (λ statement. Unit {0}) (λ before place. AreApart before) (λ before place statement body known are is. one_more_apart before statement.name body are is.new) [] 1 statements nodes
    (nothing_known statements) (λ i j d lt within. absurd (omega arith)) read).1

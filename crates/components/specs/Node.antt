-- Nodes: what add_node asks of them, and a node without its name.
use Rattle.std.specs.Prelude.{◌≢◌, ℕ, Bool, not, IsTrue, List, [], ◌∷◌, codes, bytes_eq, filter, reverse, All, AllPairs}
use Rattle.std.specs.List.{list_any}
use Rattle.std.specs.FinMap.{FinMap, from_entries}
use Rattle.components.specs.declared.kind.Kind.{Kind}
use Rattle.components.specs.declared.kind.Kind.TheVariants.{Entry, Exit, Buffer, Fork, Join, Split, Operator, Constant, Source0, Sink0, Pure, Mux, Branch, Merge, CtrlMerge, Init, Tagger}
use Rattle.components.specs.declared.node.Node.{Node}
use Rattle.components.specs.Name.{Name, name_cmp, IsName}
use Rattle.components.specs.Kind.{KindOk}

-- the keys of the attributes that the kind's row of the table names
abbrev pub row_keys : Kind → List (List ℕ)
row_keys (Entry shape) = []
row_keys (Exit shape) = []
row_keys (Buffer shape) = []
row_keys (Fork shape count) = []
row_keys (Join shapes) = []
row_keys (Split shapes) = []
row_keys (Operator op widths width) = codes "op" ∷ []
row_keys (Constant shape width value) = codes "value" ∷ []
row_keys (Source0 shape) = []
row_keys (Sink0 shape) = []
row_keys (Pure fun shape) = codes "fun" ∷ []
row_keys (Mux shape) = []
row_keys (Branch shape) = []
row_keys (Merge shape count) = []
row_keys (CtrlMerge shape count width) = []
row_keys (Init value mark) = codes "value" ∷ codes "ooo" ∷ []
row_keys (Tagger shape tags) = codes "tags" ∷ []

-- the keys of all attributes that the kind owns
abbrev pub owned_keys : Kind → List (List ℕ)
owned_keys kind = codes "type" ∷ codes "in" ∷ codes "out" ∷ row_keys kind

abbrev pub is_owned : Kind → List ℕ → Bool
is_owned kind key = list_any (bytes_eq key) (owned_keys kind)

-- the key is that of an attribute which the kind owns, so it is no kept one
abbrev pub IsOwned : Kind → List ℕ → Type 0
IsOwned kind key = IsTrue (is_owned kind key)

-- what a node of this kind keeps of these pairs: all but those that the kind owns, and of each key the last
abbrev pub kept_of : Kind → List (List ℕ × List ℕ) → FinMap name_cmp (List ℕ)
kept_of kind pairs = from_entries (filter (λ pair. not (is_owned kind pair.0)) (reverse pairs))

-- different keys, of which the kind owns none
pub record KeptOk (kind : Kind) (kept : List (List ℕ × List ℕ)) : Type 0 where
  pub distinct : AllPairs (λ a b. a.0 ≢ b.0) kept
  pub unowned : All (λ pair. ¬ (IsOwned kind pair.0)) kept

-- a node that may stand in a graph
pub record NodeOk (node : Node) : Type 0 where
  pub kind : KindOk node.kind
  pub name : IsName node.name
  pub kept : KeptOk node.kind node.kept

-- what a node is, apart from its name: its kind and the set of its kept attributes
pub record Body : Type 0 where
  pub kind : Kind
  pub kept : FinMap name_cmp (List ℕ)

abbrev pub body_of : Node → Body
body_of node = record { kind = node.kind; kept = from_entries node.kept }

-- a node by its name
abbrev pub named : Node → Name × Body
named node = (node.name, body_of node)

-- Nodes that a row of the table holds at, and the least of them by name.
use Rattle.std.specs.Prelude.{◌≡◌, ◌≢◌, ◌⊎◌, List, Option, Some, None, MatchOption}
use Rattle.components.specs.Name.{Name}
use Rattle.circuits.specs.Circuit.{circuit_of}
use Rattle.loop_laws.specs.Reached.{HasKind, FedBy, IsPure}
use Rattle.loop_laws.specs.BodyOrder.{IsBefore}
use Rattle.graph_core.specs.declared.place.NodeId.{NodeId}
use Rattle.graph_core.specs.GraphValue.{GraphValue, Denotes, name_by}
use Rattle.loop_find.specs.declared.choose.Test.{Test}
use Rattle.loop_find.specs.declared.choose.Test.TheVariants.{Impure, Foreign, Apart}
use Rattle.loop_find.specs.NodeSets.{IsPut}
use Rattle.loop_find.specs.Walks.{Has}

-- the id is that of the least node by name of which this holds
pub record IsLeast (g : GraphValue) (P : Name → Type 0) (id : NodeId) : Type 0 where
  pub denotes : Denotes g id (name_by g.ids id)
  pub holds : P (name_by g.ids id)
  pub least : (n : Name) → P n → n ≢ name_by g.ids id → IsBefore (name_by g.ids id) n

-- r is the one of the two nodes that is not behind the other by name
pub record IsLesser (g : GraphValue) (one other r : NodeId) : Type 0 where
  pub is : (r ≡ one) ⊎ (r ≡ other)
  pub first : (one ≡ r) ⊎ IsBefore (name_by g.ids r) (name_by g.ids one)
  pub second : (other ≡ r) ⊎ IsBefore (name_by g.ids r) (name_by g.ids other)

-- r is the one of the two nodes that there are that is not behind the other by name
abbrev pub IsEarlier : GraphValue → Option NodeId → Option NodeId → Option NodeId → Type 0
IsEarlier g None other r = r ≡ other
IsEarlier g (Some one) None r = r ≡ Some one
IsEarlier g (Some one) (Some other) r = (id : NodeId) × (r ≡ Some id) × IsLesser g one other id

-- the answer is the least node by name of which this holds, and none where it holds of no node
abbrev pub IsJudged : GraphValue → (Name → Type 0) → Option NodeId → Type 0
IsJudged g P answer = MatchOption answer ((n : Name) → ¬ (P n)) (IsLeast g P)

-- what is chosen: nodes of a kind that is not pure, nodes with an input that is fed from outside a set, nodes that are not in a set
abbrev pub Fails : GraphValue → Test → List NodeId → Name → Type 0
Fails g Impure set n = ¬ (HasKind (circuit_of g.graph) IsPure n)
Fails g Foreign set n = ¬ (FedBy (circuit_of g.graph) (Has g set) n)
Fails g Apart set n = ¬ (Has g set n)

-- the node stands in the list if it fails the test
abbrev pub IsSorted : GraphValue → Test → List NodeId → NodeId → List NodeId → List NodeId → Type 0
IsSorted g test set id before after =
    (Fails g test set (name_by g.ids id) × IsPut before id after) ⊎ (¬ (Fails g test set (name_by g.ids id)) × (after ≡ before))

-- the nodes of a list that fail the test
abbrev pub Chosen : GraphValue → Test → List NodeId → List NodeId → Name → Type 0
Chosen g test set from n = Has g from n × Fails g test set n

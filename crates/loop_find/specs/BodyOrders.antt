-- The order of a body, while it is made.
use Rattle.std.proofs.Common.{Bor}
use Rattle.std.specs.Prelude.{◌≡◌, ◌⊎◌, List, Some}
use Rattle.components.specs.Name.{Name, Port}
use Rattle.circuits.specs.Circuit.{circuit_of}
use Rattle.circuits.specs.Replacing.{In}
use Rattle.graph_core.specs.declared.place.NodeId.{NodeId}
use Rattle.graph_core.specs.GraphValue.{GraphValue, Denotes}
use Rattle.loop_find.specs.Walks.{Has}

-- what feeds the input, or each input of the node, from the body is placed
abbrev pub IsFedAt : GraphValue → List NodeId → List NodeId → Port → Type 0
IsFedAt g body placed p = (q : Port) → (circuit_of g.graph).feeder p ≡ Some q → Has g body q.node → Has g placed q.node

abbrev pub IsFed : GraphValue → List NodeId → List NodeId → Name → Type 0
IsFed g body placed n = (p : Port) → p.node ≡ n → IsFedAt g body placed p

-- a node of the body that is not placed, while what feeds it from the body is
pub record IsNext (g : GraphValue) (body placed : List NodeId) (n : Name) : Type 0 where
  pub has : Has g body n
  pub left : ¬ (Has g placed n)
  pub fed : IsFed g body placed n

-- ids under the names of their nodes
abbrev pub Tree : Type 0
Tree = List (Bor Name × NodeId)

abbrev pub HasKey : Tree → Name → Type 0
HasKey tree n = (e : Bor Name × NodeId) × In e tree × (e.0.now ≡ n)

-- the entry is that of a node that is next
abbrev pub IsEntry : GraphValue → List NodeId → List NodeId → Bor Name × NodeId → Type 0
IsEntry g body placed e = Denotes g e.1 e.0.now × IsNext g body placed e.0.now

-- beside what was there the tree has those nodes of which this holds that are next
pub record Queues (g : GraphValue) (body placed : List NodeId) (P : Name → Type 0) (before after : Tree) : Type 0 where
  pub each : (e : Bor Name × NodeId) → In e after → In e before ⊎ IsEntry g body placed e
  pub keeps : (n : Name) → HasKey before n → HasKey after n
  pub has : (n : Name) → P n → IsNext g body placed n → HasKey after n

-- the output, or an output of the node, feeds the other node
abbrev pub IsFedFrom : GraphValue → Port → Name → Type 0
IsFedFrom g q n = (p : Port) × ((circuit_of g.graph).feeder p ≡ Some q) × (p.node ≡ n)

abbrev pub IsFedBy : GraphValue → Name → Name → Type 0
IsFedBy g a n = (q : Port) × (q.node ≡ a) × IsFedFrom g q n

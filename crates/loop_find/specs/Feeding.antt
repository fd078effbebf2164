-- Nodes that may feed a loop constants, by what they feed.
use Rattle.std.specs.Prelude.{◌≡◌, ◌⊎◌, ◌↔◌, List, [], ◌∷◌, ◌++◌, Bool, true, false, Option, Some}
use Rattle.components.specs.declared.kind.Kind.{Kind}
use Rattle.components.specs.declared.kind.Kind.TheVariants.{Buffer, Fork, Join, Split, Operator, Constant, Source0, Pure}
use Rattle.components.specs.Name.{Name, Port}
use Rattle.circuits.specs.Circuit.{circuit_of}
use Rattle.circuits.specs.Replacing.{In}
use Rattle.loop_laws.specs.Reached.{HasKind}
use Rattle.loop_laws.specs.Feeders.{IsConstant}
use Rattle.graph_core.specs.declared.place.NodeId.{NodeId}
use Rattle.graph_core.specs.GraphValue.{GraphValue, Denotes, name_by}
use Rattle.loop_find.specs.NodeSets.{IsPut}
use Rattle.loop_find.specs.Walks.{Has}

-- the kinds of constant nodes
abbrev pub is_constant : Option Kind → Bool
is_constant (Some (Source0 shape)) = true
is_constant (Some (Buffer shape)) = true
is_constant (Some (Fork shape count)) = true
is_constant (Some (Join shapes)) = true
is_constant (Some (Split shapes)) = true
is_constant (Some (Operator op widths width)) = true
is_constant (Some (Constant shape width value)) = true
is_constant (Some (Pure fun shape)) = true
is_constant _ = false

-- each wire from this output, or from an output of the node, enters a node of one of the two sets
abbrev pub FeedsAt : GraphValue → List NodeId → List NodeId → Port → Type 0
FeedsAt g takers ids q = (p : Port) → (circuit_of g.graph).feeder p ≡ Some q → Has g takers p.node ⊎ Has g ids p.node

abbrev pub FeedsOnly : GraphValue → List NodeId → List NodeId → Name → Type 0
FeedsOnly g takers ids n = (q : Port) → q.node ≡ n → FeedsAt g takers ids q

-- a constant node that is none of the takers, and feeds the two sets alone
pub record MayFeed (g : GraphValue) (takers ids : List NodeId) (n : Name) : Type 0 where
  pub constant : HasKind (circuit_of g.graph) IsConstant n
  pub apart : ¬ (Has g takers n)
  pub feeds : FeedsOnly g takers ids n

-- the node stands in the set if it may feed it
abbrev pub IsConsidered : GraphValue → List NodeId → NodeId → List NodeId → List NodeId → Type 0
IsConsidered g takers id before after =
    (MayFeed g takers before (name_by g.ids id) × IsPut before id after) ⊎ (¬ (MayFeed g takers before (name_by g.ids id)) × (after ≡ before))

-- each node of the set feeds the takers and those before it alone
pub data AreLaid (g : GraphValue) (takers : List NodeId) : List NodeId → Type 0 where
  none : {ids : List NodeId} → ids ≡ [] → AreLaid g takers ids
  more : {ids : List NodeId} (before : List NodeId) (id : NodeId) → ids ≡ before ++ id ∷ [] → AreLaid g takers before → ¬ (In id before) →
      Denotes g id (name_by g.ids id) → MayFeed g takers before (name_by g.ids id) → AreLaid g takers ids

-- behind those that were there stand the nodes that feed these inputs, if they may
pub record Considers (g : GraphValue) (takers : List NodeId) (P : Port → Type 0) (before after : List NodeId) : Type 0 where
  pub laid : AreLaid g takers before → AreLaid g takers after
  pub more : List NodeId
  pub grows : after ≡ before ++ more
  pub has : (p q : Port) → P p → (circuit_of g.graph).feeder p ≡ Some q → MayFeed g takers before q.node → Has g after q.node

-- all nodes that feed something, and may feed the takers and the set itself
pub record AreCandidates (g : GraphValue) (takers ids : List NodeId) : Type 0 where
  pub laid : AreLaid g takers ids
  pub all : (p q : Port) → (circuit_of g.graph).feeder p ≡ Some q → MayFeed g takers ids q.node → Has g ids q.node

-- the nodes of both lists, and no others
abbrev pub HasBoth : List NodeId → List NodeId → List NodeId → Type 0
HasBoth one other both = (id : NodeId) → In id both ↔ (In id one ⊎ In id other)

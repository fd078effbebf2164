-- A graph in memory to which a rule was applied.
use Rattle.std.specs.Prelude.{◌≡◌, false, max}
use Rattle.std.specs.FinMap as finite
use Rattle.components.specs.Name.{Name}
use Rattle.components.specs.NamedGraph.{NamedGraph, IsTyped}
use Rattle.circuits.specs.Circuit.{circuit_of}
use Rattle.circuits.specs.Refines.{Refines}
use Rattle.circuits.specs.ReplacedGraph.{has_inner, replaced_graph, Matches}
use Rattle.graph_core.specs.declared.place.NodeId.{NodeId}
use Rattle.graph_core.specs.GraphValue.{GraphValue, Denotes}
use Rattle.subst_engine.specs.declared.replacing.ReplaceFault.{ReplaceFault}
use Rattle.subst_engine.specs.declared.replacing.ReplaceFault.TheVariants.{NoMatch, NoMemory}

-- right stands in the place of left; the ids of nodes that stay denote them, and there are no more slots than before, or than live nodes
pub record IsExchangedPart (g : GraphValue) (left right : NamedGraph) (h : GraphValue) : Type 0 where
  pub graph : h.graph ≡ replaced_graph g.graph left right
  pub stay : (id : NodeId) (name : Name) → Denotes g id name → has_inner left name ≡ false → Denotes h id name
  pub slots : h.slots ≡ max g.slots (finite.len h.graph.nodes)

-- the rule matched, its right graph stands in the place of its left graph, and the graph is typed and refines what it was
pub record IsReplaced (g : GraphValue) (left right : NamedGraph) (h : GraphValue) : Type 0 where
  pub matched : Matches g.graph left right
  pub part : IsExchangedPart g left right h
  pub typed : IsTyped h.graph
  pub refines : Refines (circuit_of h.graph) (circuit_of g.graph)

-- why a rule is not applied: it does not match; want of memory where it does
abbrev pub Refuses : NamedGraph → NamedGraph → NamedGraph → ReplaceFault → Type 0
Refuses g left right NoMatch = ¬ (Matches g left right)
Refuses g left right NoMemory = Matches g left right

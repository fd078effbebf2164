-- The turn of one node, by its id.
use Rattle.std.specs.Prelude.{◌≢◌, IfSome}
use Rattle.std.specs.FinMap as map
use Rattle.components.specs.Name.{Name}
use Rattle.graph_core.specs.declared.place.NodeId.{NodeId}
use Rattle.graph_core.specs.GraphValue.{GraphValue, Denotes}
use Rattle.subst_engine.specs.Rule.{NamedRule}
use Rattle.pure_extract.specs.DropBuffer.{IsDropBuffer}
use Rattle.rewrite.specs.Stripped.{IsBuffer}
use Rattle.rewrite.specs.Strips.{StaysAtTurn, Turn}

-- the node that the id denotes, if it denotes one, stays at its turn
abbrev pub StaysById : GraphValue → NodeId → Type 0
StaysById g id = IfSome (map.get g.ids id) (StaysAtTurn g.graph)

-- the id denotes a Buffer, and this is the rule that drops it
pub record IsDropAt (g : GraphValue) (id : NodeId) (rule : NamedRule) : Type 0 where
  pub name : Name
  pub denotes : Denotes g id name
  pub buffer : IsBuffer g.graph name
  pub is : IsDropBuffer g.graph name rule

-- the node that the id denotes, if it denotes one, had its turn, and the ids of all others denote what they denoted
pub record HadTurn (g : GraphValue) (id : NodeId) (h : GraphValue) : Type 0 where
  pub turn : IfSome (map.get g.ids id) (λ name. Turn g.graph name h.graph)
  pub others : (other : NodeId) (name : Name) → other ≢ id → Denotes g other name → Denotes h other name

-- Dropping the Buffers of a graph one after the other.
use Rattle.std.specs.Prelude.{◌≡◌, ◌⊎◌, List, [], ◌∷◌}
use Rattle.std.specs.FinMap as map
use Rattle.components.specs.Name.{Name}
use Rattle.components.specs.NamedGraph.{NamedGraph, IsTyped}
use Rattle.circuits.specs.Buffers.{IsWithoutBuffer}
use Rattle.rewrite.specs.Stripped.{IsBuffer, FeedsItself, IsStripped}

-- without a Buffer that is not wired to itself: what fed it feeds what it fed
pub record Drops (g : NamedGraph) (name : Name) (h : NamedGraph) : Type 0 where
  pub buffer : IsBuffer g name
  pub without : IsWithoutBuffer h g name

-- it is no Buffer, or is wired to itself
abbrev pub StaysAtTurn : NamedGraph → Name → Type 0
StaysAtTurn g name = ¬ (IsBuffer g name) ⊎ FeedsItself g name

-- the turn of one node
abbrev pub Turn : NamedGraph → Name → NamedGraph → Type 0
Turn g name h = (StaysAtTurn g name × (g ≡ h)) ⊎ Drops g name h

-- the turns of these nodes, one after the other
abbrev pub Turns : NamedGraph → List Name → NamedGraph → Type 0
Turns g [] h = g ≡ h
Turns g (name ∷ names) h = (between : NamedGraph) × Turn g name between × Turns between names h

-- the nodes of a typed graph can have their turns
abbrev pub TurnsEnd : Type 0
TurnsEnd = (g : NamedGraph) → IsTyped g → (h : NamedGraph) × Turns g (map.keys g.nodes) h

-- when each node had its turn, in the order of their names, the graph is stripped
abbrev pub TurnsStrip : Type 0
TurnsStrip = (g h : NamedGraph) → IsTyped g → Turns g (map.keys g.nodes) h → IsStripped g h × IsTyped h

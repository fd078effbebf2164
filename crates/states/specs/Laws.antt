-- Laws of states of graphs in memory.
use Rattle.std.specs.Prelude.{◌≡◌}
use Rattle.components.specs.Name.{Name}
use Rattle.components.specs.NamedGraph.{IsTyped}
use Rattle.circuits.specs.Circuit.{circuit_of}
use Rattle.circuits.specs.CircuitState.{start}
use Rattle.circuits.specs.Firing.{Label}
use Rattle.circuits.specs.Run.{Step}
use Rattle.graph_core.specs.GraphValue.{GraphValue}
use Rattle.states.specs.GraphState.{Places, HasPlaces, IsStateIn, state_of}

-- what holds the same as the start is a state
abbrev pub StartIsIn : Type 0
StartIsIn = (g : GraphValue) (s : Places) → IsTyped g.graph → HasPlaces g s → state_of g s ≡ start (circuit_of g.graph) → IsStateIn g s

-- and a step leads from a state to a state
abbrev pub StepStaysIn : Type 0
StepStaysIn = (g : GraphValue) (s t : Places) (n : Name) (l : Label) → IsStateIn g s → HasPlaces g t →
    Step (circuit_of g.graph) (state_of g s) n l (state_of g t) → IsStateIn g t

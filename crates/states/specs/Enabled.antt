-- Nodes of a graph in memory that can fire.
use Rattle.std.specs.Prelude.{◌≡◌, ℕ, Some}
use Rattle.components.specs.declared.kind.Kind.{Kind}
use Rattle.circuits.specs.Circuit.{circuit_of}
use Rattle.circuits.specs.CircuitState.{CircuitState}
use Rattle.circuits.specs.Firing.{Label.Fire}
use Rattle.circuits.specs.Run.{Step}
use Rattle.graph_core.specs.declared.place.NodeId.{NodeId}
use Rattle.graph_core.specs.GraphValue.{GraphValue, name_by}
use Rattle.states.specs.GraphState.{Places, place_at, state_of}
use Rattle.states.specs.Ready.{IsReady}
use Rattle.states.specs.declared.taking.Taking.{Taking}

-- the node of this id fires with the choice, to this state
abbrev pub FiresTo : GraphValue → Places → NodeId → ℕ → CircuitState → Type 0
FiresTo g s node choice t = Step (circuit_of g.graph) (state_of g s) (name_by g.ids node) (Fire choice) t

-- it can fire with the choice
abbrev pub IsEnabled : GraphValue → Places → NodeId → ℕ → Type 0
IsEnabled g s node choice = (t : CircuitState) × FiresTo g s node choice t

-- it can fire with the choice, and this is what it takes
pub record IsReadyAt (g : GraphValue) (s : Places) (node : NodeId) (choice : ℕ) (taking : Taking) : Type 0 where
  pub kind : Kind
  pub is_kind : (circuit_of g.graph).kind_at (name_by g.ids node) ≡ Some kind
  pub ready : IsReady kind choice (place_at s node) taking

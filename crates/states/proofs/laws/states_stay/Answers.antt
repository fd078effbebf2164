use Rattle.std.proofs.Common.{sym, subst}
use Rattle.circuits.specs.Circuit.{circuit_of}
use Rattle.circuits.specs.CircuitState.{IsStateOf}
use Rattle.states.specs.GraphState.{state_of}
use Rattle.states.proofs.laws.states_stay.Goals as goal

pub returns-clause-start : goal.returns-clause-start
returns-clause-start c = λ g s typed has same.
    let circuit = c.graph_typed_as_circuit.ensures.circuit g.graph typed in
    record { typed = typed; has = has; state = subst (IsStateOf (circuit_of g.graph)) (sym same) (c.states_fit.ensures.start (circuit_of g.graph) circuit) }

pub returns-clause-step : goal.returns-clause-step
returns-clause-step c = λ g s t n l is has step.
    let circuit = c.graph_typed_as_circuit.ensures.circuit g.graph is.typed in
    record { typed = is.typed; has = has; state = c.states_fit.ensures.step (circuit_of g.graph) circuit (state_of g s) n l (state_of g t) step is.state }

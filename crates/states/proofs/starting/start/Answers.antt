use Rattle.std.proofs.Common.{◌≡◌, sym, subst}
use Rattle.circuits.specs.Circuit.{circuit_of}
use Rattle.circuits.specs.CircuitState.{start}
use Rattle.states.specs.GraphState.{IsStateIn, Places, state_of}
use Rattle.states.proofs.Started.{start_has, start_same}
use Rattle.states.proofs.starting.start.Goals as goal

pub returns-clause-state : goal.returns-clause-state
returns-clause-state c =
    let g = c.args.g.now in
    let s = c.in_ok-places.places.items in
    let made = c.in_ok-places.ensures in
    subst (IsStateIn g) (sym c.of_places.ensures)
    (c.states_stay.ensures.start g s c.requires (start_has g c.is_graph.ensures c.requires s made.count made.held) (start_same g c.is_graph.ensures c.requires s made.count made.held))

pub returns-clause-start : goal.returns-clause-start
returns-clause-start c =
    let g = c.args.g.now in
    let s = c.in_ok-places.places.items in
    let made = c.in_ok-places.ensures in
    subst (λ (t : Places). state_of g t ≡ start (circuit_of g.graph)) (sym c.of_places.ensures)
    (start_same g c.is_graph.ensures c.requires s made.count made.held)

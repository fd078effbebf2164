use Rattle.std.proofs.Common.{◌∙◌}
use Rattle.graph_core.specs.GraphValue.{name_by}
use Rattle.states.proofs.Changing.{queue_there}
use Rattle.states.proofs.EndSteps.{exit_there, none_then, take_none, take_same, take_some, take_stays}
use Rattle.states.proofs.state.State.take.Goals as goal

pub pop-requires-clause-node : goal.pop-requires-clause-node
pop-requires-clause-node c = (exit_there c.args.g.now c.is_graph.ensures c.args.self.now c.requires.state c.args.exit c.requires.exit).node

pub pop-requires-clause-few : goal.pop-requires-clause-few
pop-requires-clause-few c = (exit_there c.args.g.now c.is_graph.ensures c.args.self.now c.requires.state c.args.exit c.requires.exit).few

pub returns-clause-state : goal.returns-clause-state
returns-clause-state c = take_stays c.args.g.now c.is_graph.ensures c.args.self.now c.requires.state c.args.exit c.requires.exit c.pop.new.self c.pop.ensures.rest c.pop.result c.pop.ensures.result c.states_stay.ensures.step

pub returns-clause-some : goal.returns-clause-some
returns-clause-some c = take_some c.args.g.now c.is_graph.ensures c.args.self.now c.requires.state c.args.exit c.requires.exit c.pop.new.self c.pop.ensures.rest c.pop.result c.pop.ensures.result

pub returns-clause-none : goal.returns-clause-none
returns-clause-none c =
    none_then c.pop.result
    (λ none. queue_there c.args.g.now c.is_graph.ensures c.args.self.now (record { node = c.args.exit; port = 1 }) (name_by c.args.g.now.ids c.args.exit) (exit_there c.args.g.now c.is_graph.ensures c.args.self.now c.requires.state c.args.exit c.requires.exit) ∙ none)
    (take_none c.args.g.now c.is_graph.ensures c.args.self.now c.requires.state c.args.exit c.requires.exit c.pop.new.self c.pop.ensures.rest c.pop.result c.pop.ensures.result)

pub returns-clause-same : goal.returns-clause-same
returns-clause-same c = take_same c.args.g.now c.is_graph.ensures c.args.self.now c.requires.state c.args.exit c.requires.exit c.pop.new.self c.pop.ensures.rest c.pop.result c.pop.ensures.result

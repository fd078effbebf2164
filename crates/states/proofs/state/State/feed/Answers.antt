use Rattle.components.specs.declared.kind.Kind.TheVariants.{Entry}
use Rattle.std.proofs.Common.{refl, sym, subst}
use Rattle.graph_core.specs.GraphValue.{name_by}
use Rattle.states.specs.GraphState.{IsStateIn}
use Rattle.states.proofs.EndSteps.{either_way, feed_stays, feed_step, has_output, ok_then, target_there}
use Rattle.states.proofs.state.State.feed.Goals as goal

pub target_of-target-requires-clause-there : goal.target_of-target-requires-clause-there
target_of-target-requires-clause-there c =
    let can = c.requires.entry in
    has_output c.args.g.now (name_by c.args.g.now.ids c.args.entry) (Entry can.shape) can.is_entry 1 can.shape refl

pub push-requires-clause-node : goal.push-requires-clause-node
push-requires-clause-node c = (target_there c.args.g.now c.is_graph.ensures c.args.self.now c.requires.state c.args.entry c.target_of-target.result c.target_of-target.ensures).node

pub push-requires-clause-some : goal.push-requires-clause-some
push-requires-clause-some c = (target_there c.args.g.now c.is_graph.ensures c.args.self.now c.requires.state c.args.entry c.target_of-target.result c.target_of-target.ensures).some

pub push-requires-clause-few : goal.push-requires-clause-few
push-requires-clause-few c = (target_there c.args.g.now c.is_graph.ensures c.args.self.now c.requires.state c.args.entry c.target_of-target.result c.target_of-target.ensures).few

pub returns-clause-state : goal.returns-clause-state
returns-clause-state c =
    either_way c.push.result
    (λ put. feed_stays c.args.g.now c.is_graph.ensures c.args.self.now c.requires.state c.args.entry c.target_of-target.result c.target_of-target.ensures c.args.token c.requires.entry c.push.new.self put c.states_stay.ensures.step) c.push.ensures.ok
    (λ same. subst (IsStateIn c.args.g.now) (sym same) c.requires.state) c.push.ensures.err

pub returns-clause-ok : goal.returns-clause-ok
returns-clause-ok c =
    ok_then c.push.result
    (λ put. feed_step c.args.g.now c.is_graph.ensures c.args.self.now c.requires.state c.args.entry c.target_of-target.result c.target_of-target.ensures c.args.token c.requires.entry c.push.new.self put) c.push.ensures.ok

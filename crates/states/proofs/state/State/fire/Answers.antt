use Rattle.states.proofs.EndSteps.{live_denotes}
use Rattle.states.proofs.Enabling.{ready_enabled}
use Rattle.states.proofs.state.State.fire.Goals as goal

pub returns-in-Err-clause-cannot : goal.returns-in-Err-clause-cannot
returns-in-Err-clause-cannot c =
    ((λ e. absurd cc), λ no. absurd (no (ready_enabled c.args.g.now c.is_graph.ensures c.args.self.now c.requires.state c.args.node (live_denotes c.args.g.now c.args.node c.requires.live) c.args.choice c.in-Some.taking c.in-Some.ensures)))

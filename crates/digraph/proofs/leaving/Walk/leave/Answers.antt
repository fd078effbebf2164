use Rattle.std.proofs.Common.{sym, subst}
use Rattle.digraph.specs.Leaving.{Walking}
use Rattle.digraph.proofs.DepthWalk.{left_one}
use Rattle.digraph.proofs.leaving.Walk.leave.Goals as goal

pub returns-clause-walking : goal.returns-clause-walking
returns-clause-walking c =
    subst (λ left. Walking c.args.graph.now c.args.self.now.entered.items c.args.self.now.tasks.items left) (sym c.in_ok-push.ensures.items)
    (left_one c.args.graph.now c.args.self.now.entered.items c.args.self.now.tasks.items c.args.self.now.left.items c.args.vertex c.requires)

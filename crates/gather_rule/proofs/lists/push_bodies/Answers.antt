use Rattle.std.proofs.Common.{rules}
use Rattle.components.specs.declared.node.Node.{Node}
use Rattle.subst_engine.specs.Making.{bare_node}
use Rattle.gather_rule.proofs.Growing.{map_more}
use Rattle.gather_rule.proofs.lists.push_bodies.Goals as goal

pub loop-index-preserved : goal.loop-index-preserved
loop-index-preserved c =
    map_more (λ (node : Node). bare_node node.name node.kind) c.args.body.now c.loop-index.index c.index-body-index.result c.args.nodes.now.items _ _ (search (rules, c.index-body-index.is)) c.loop-index-test.true
    c.in_ok-push_bare.ensures c.loop-index.invariant

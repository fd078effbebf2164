use Rattle.std.proofs.Common.{◌≡◌, ◌++◌, map, take}
use Rattle.components.specs.declared.node.Node.{Node}
use Rattle.subst_engine.specs.Making.{bare_node}
use Rattle.gather_rule.proofs.lists.push_bodies.Given as goal

abbrev pub invariant-loop-index : goal.invariant-loop-index
invariant-loop-index l = l.nodes.items ≡ l.fn.nodes.items ++ map (λ (node : Node). bare_node node.name node.kind) (take l.index l.body)

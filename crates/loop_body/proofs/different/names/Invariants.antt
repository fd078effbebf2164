use Rattle.std.proofs.Common.{◌≡◌, ◌++◌, map, drop, List, ℕ, Bor}
use Rattle.components.specs.declared.node.Node.{Node}
use Rattle.loop_body.proofs.different.names.Given as goal

abbrev pub invariant-loop-node : goal.invariant-loop-node
invariant-loop-node l = map (λ (name : Bor (List ℕ)). name.now) l.names.items ++ map (λ (node : Node). node.name) (drop l.node-index l.nodes) ≡ map (λ (node : Node). node.name) l.nodes

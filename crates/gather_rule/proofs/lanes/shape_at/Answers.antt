use Rattle.std.proofs.Common.{◌∷◌, map, sym, ◌∙◌, true≢false}
use Rattle.components.specs.declared.node.Node.{Node}
use Rattle.gather_rule.proofs.OutputShapes.{ok_at, no_port, has_shape}
use Rattle.gather_rule.proofs.lanes.shape_at.Goals as goal

pub has_port-requires : goal.has_port-requires
has_port-requires c = ok_at (c.args.split.now ∷ map (λ (n : Node). n.kind) c.args.nodes.now) c.requires c.args.port.node c.in-Some.kind.now c.in-Some.ensures

pub port_shape-requires-clause-ok : goal.port_shape-requires-clause-ok
port_shape-requires-clause-ok c = ok_at (c.args.split.now ∷ map (λ (n : Node). n.kind) c.args.nodes.now) c.requires c.args.port.node c.in-Some.kind.now c.in-Some.ensures

pub returns-then-not-has_port : goal.returns-then-not-has_port
returns-then-not-has_port c = no_port (c.args.split.now ∷ map (λ (n : Node). n.kind) c.args.nodes.now) c.args.port c.in-Some.kind.now c.in-Some.ensures (λ some. true≢false (sym (c.has_port.ensures.1 some) ∙ c.if-not-has_port.true))

pub returns : goal.returns
returns c = has_shape (c.args.split.now ∷ map (λ (n : Node). n.kind) c.args.nodes.now) c.args.port c.in-Some.kind.now c.in_ok-shape.shape c.in-Some.ensures c.in_ok-shape.ensures

use Rattle.std.proofs.Common.{◌≡◌, [], ◌∷◌, map, take}
use Rattle.std.specs.Prelude.{unwrap_or}
use Rattle.components.specs.declared.node.Node.{Node}
use Rattle.components.specs.Kind.{outs}
use Rattle.loop_body.specs.declared.body_port.BodyPort.{BodyPort}
use Rattle.loop_body.specs.Body.{entry}
use Rattle.gather_rule.proofs.lanes.shapes_at.Given as goal

abbrev pub invariant-loop-index : goal.invariant-loop-index
invariant-loop-index l = l.shapes.items ≡ map (λ (p : BodyPort). unwrap_or (entry (map outs (l.split ∷ map (λ (n : Node). n.kind) l.nodes)) p) []) (take l.index l.ports)

use Rattle.std.proofs.Common.{◌∙◌, List, [], ◌∷◌, ◌++◌, map, ap, sym}
use Rattle.std.specs.Prelude.{unwrap_or}
use Rattle.components.specs.declared.kind.Kind.{Kind}
use Rattle.components.specs.declared.node.Node.{Node}
use Rattle.components.specs.Kind.{Shape, outs}
use Rattle.loop_body.specs.declared.body_port.BodyPort.{BodyPort}
use Rattle.loop_body.specs.Body.{entry}
use Rattle.gather_rule.proofs.Growing.{map_more, value_at}
use Rattle.gather_rule.proofs.lanes.shapes_at.Goals as goal

pub loop-index-preserved : goal.loop-index-preserved
loop-index-preserved c =
    let ks : List Kind = c.args.split.now ∷ map (λ (n : Node). n.kind) c.args.nodes.now in
    let index = c.loop-index.index in
    let port = c.port_at-port.result in
    let f : BodyPort → Shape = λ p. unwrap_or (entry (map outs ks) p) [] in
    map_more f c.args.ports.now index port [] _ _ (value_at c.args.ports.now index port c.port_at-port.ensures) c.loop-index-test.true
    (c.in_ok-push.ensures.items ∙ ap (λ o. c.loop-index.shapes.items ++ unwrap_or o [] ∷ []) (sym c.in-Some.is ∙ c.in_ok-shape.ensures)) c.loop-index.invariant

pub returns-in_default : goal.returns-in_default
returns-in_default c = (c.loop-index.index, c.port_at-port.result, c.port_at-port.ensures, sym c.in_ok-shape.ensures ∙ c.in_default.is)

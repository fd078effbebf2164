use Rattle.std.proofs.Common.{◌∙◌, ◌+◌, ◌++◌, [], ◌∷◌, ◌≤◌}
use Rattle.graph_core.specs.declared.exchange.End.TheVariants.{Fresh}
use Rattle.loop_body.specs.declared.body_port.BodyPort.{BodyPort}
use Rattle.gather_rule.specs.NumberedBody.{numbered_port}
use Rattle.gather_rule.specs.GatherSides.{out_end}
use Rattle.gather_rule.proofs.Growing.{rows_more, value_at, all_at}
use Rattle.gather_rule.proofs.lists.push_exits.Goals as goal

pub out_end-requires : goal.out_end-requires
out_end-requires c =
    all_at (λ (p : BodyPort). p.node ≤ 4096) c.args.ports.now c.loop-index.index c.port_at-port.result (value_at c.args.ports.now c.loop-index.index c.port_at-port.result c.port_at-port.ensures) c.loop-index-test.true c.requires.near

pub loop-index-preserved : goal.loop-index-preserved
loop-index-preserved c =
    let index = c.loop-index.index in
    let port = c.port_at-port.result in
    rows_more (λ i p. (out_end (numbered_port p), Fresh i 1) ∷ []) c.args.place c.args.ports.now index port c.args.wires.now.items _ _ (value_at c.args.ports.now index port c.port_at-port.ensures) c.loop-index-test.true
    (c.in_ok-push.ensures.items ∙ (λ j. c.loop-index.wires.items ++ (c.out_end.ensures j, Fresh (c.args.place + index) 1) ∷ [])) c.loop-index.invariant

use Rattle.std.proofs.Common.{rules, ◌∙◌, ap, ◌++◌, ◌+◌}
use Rattle.gather_rule.specs.GatherSides.{ports_ends}
use Rattle.gather_rule.proofs.Growing.{rows_more}
use Rattle.gather_rule.proofs.lists.push_inputs.Goals as goal

pub loop-index-preserved : goal.loop-index-preserved
loop-index-preserved c =
    let index = c.loop-index.index in
    rows_more ports_ends 2 c.args.inputs.now index c.index-inputs-index.result c.args.wires.now.items _ _ (search (rules, c.index-inputs-index.is)) c.loop-index-test.true
    (c.in_ok-push_ports.ensures ∙ ap (λ z. c.loop-index.wires.items ++ ports_ends (2 + index) z) c.as_slice.ensures) c.loop-index.invariant

use Rattle.std.proofs.Common.{◌+◌, arith, subst, sym}
use Rattle.graph_core.specs.GraphValue.{name_by}
use Rattle.states.specs.Starting.{AreHeld}
use Rattle.states.proofs.EndSteps.{live_denotes}
use Rattle.states.proofs.Started.{held_more, held_none, input_at}
use Rattle.states.proofs.starting.start_queues.Goals as goal

pub loop-input-init : goal.loop-input-init
loop-input-init c =
    let g = c.args.g.now in
    let name = name_by g.ids c.args.node in
    subst (AreHeld g name 0) (sym c.new-queues.ensures.items) (held_none g name)

pub start_queue-requires-clause-there : goal.start_queue-requires-clause-there
start_queue-requires-clause-there c =
    let g = c.args.g.now in
    let name = name_by g.ids c.args.node in
    let (body, found) = c.is_graph.ensures.denoted c.args.node name (live_denotes g c.args.node c.requires.live) in
    input_at g name body found c.loop-input.input (omega (arith, c.input_count-input-end.ensures body found))

pub loop-input-preserved : goal.loop-input-preserved
loop-input-preserved c =
    let g = c.args.g.now in
    let name = name_by g.ids c.args.node in
    subst (AreHeld g name (c.loop-input.input + 1)) (sym c.in_ok-push.ensures.items)
    (held_more g name c.loop-input.input c.loop-input.queues.items c.in_ok-start_queue.field-0 c.loop-input.invariant c.in_ok-start_queue.ensures)

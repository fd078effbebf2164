use Rattle.std.proofs.Common.{◌+◌, drop, subst, arith}
use Rattle.std.proofs.lemmas.List.{at_drop_more}
use Rattle.graph_core.specs.Inside.{value_of}
use Rattle.graph_core.proofs.Exchanging.{SoRemoved, so_removed}
use Rattle.graph_core.proofs.exchange.take_all.Goals as goal

pub loop-id-preserved : goal.loop-id-preserved
loop-id-preserved c =
    let g = value_of c.args.cells.now c.args.names.now.ids in
    let i = c.loop-id.id-index in
    let so_far = subst (SoRemoved g c.args.gone.now (value_of c.loop-id.cells c.loop-id.names.ids)) (at_drop_more (λ ys. ys) c.args.gone.now i (record { index = 0 }) (omega arith)) c.loop-id.invariant.1 in
    let step = so_removed g c.args.gone.now (value_of c.loop-id.cells c.loop-id.names.ids) _ (drop (c.loop-id.id-index + 1) c.args.gone.now) so_far (value_of c.leave.new.cells c.leave.new.names.ids) c.leave.ensures.gone in
    (c.leave.ensures.arena, step, omega arith)

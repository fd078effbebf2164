use Rattle.std.proofs.Common.{◌≤◌, length, arith}
use Rattle.loop_find.proofs.OrderTree.{among_first, among_more, among_last}
use Rattle.loop_find.proofs.Places.{at_in}
use Rattle.loop_find.proofs.order.enter_all.Goals as goal

pub enter-requires : goal.enter-requires
enter-requires c = c.requires c.at.result (at_in c.args.body.now.ids c.loop-next.next c.at.result c.at.ensures)

pub loop-next-init : goal.loop-next-init
loop-next-init c = among_first c.args.g.now c.args.body.now.ids c.args.placed.now.ids c.is_graph.ensures c.args.ready.now.entries

pub loop-next-preserved : goal.loop-next-preserved
loop-next-preserved c =
    among_more c.args.g.now c.args.body.now.ids c.args.placed.now.ids c.is_graph.ensures c.args.ready.now.entries c.loop-next.ready.entries c.enter.new.ready.entries c.loop-next.next c.at.result c.at.ensures
    c.loop-next.invariant c.in_ok-enter.ensures

pub returns : goal.returns
returns c =
    let past : length c.args.body.now.ids ≤ c.loop-next.next = omega arith in
    among_last c.args.g.now c.args.body.now.ids c.args.placed.now.ids c.is_graph.ensures c.args.ready.now.entries c.loop-next.ready.entries c.loop-next.next past c.loop-next.invariant

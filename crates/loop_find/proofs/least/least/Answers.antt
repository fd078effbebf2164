use Rattle.std.proofs.Common.{◌≤◌, length, arith, rules}
use Rattle.loop_find.proofs.Places.{at_in}
use Rattle.loop_find.proofs.Choosing.{least_first, least_more, least_last}
use Rattle.loop_find.proofs.least.least.Goals as goal

pub loop-next-init : goal.loop-next-init
loop-next-init c = least_first c.args.g.now c.is_graph.ensures c.args.set.now.ids c.in_ok-found.found (search rules)

pub lesser-found-requires-clause-other : goal.lesser-found-requires-clause-other
lesser-found-requires-clause-other c = c.requires c.at.result (at_in c.args.set.now.ids c.loop-next.next c.at.result c.at.ensures)

pub loop-next-preserved : goal.loop-next-preserved
loop-next-preserved c =
    least_more c.args.g.now c.is_graph.ensures c.args.set.now.ids c.loop-next.next c.loop-next.found c.at.result c.lesser-found.result c.loop-next.invariant c.at.ensures c.lesser-found.ensures

pub returns : goal.returns
returns c =
    let done : length c.args.set.now.ids ≤ c.loop-next.next = omega arith in
    least_last c.args.g.now c.is_graph.ensures c.args.set.now.ids c.loop-next.next c.loop-next.found c.requires c.loop-next.invariant done

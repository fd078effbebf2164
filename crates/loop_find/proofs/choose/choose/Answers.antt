use Rattle.std.proofs.Common.{◌≤◌, length, arith, ◌∙◌}
use Rattle.loop_find.proofs.Places.{at_in}
use Rattle.loop_find.proofs.Choosing.{choosing_more, choosing_last}
use Rattle.loop_find.proofs.choose.choose.Goals as goal

pub sort-requires-clause-live : goal.sort-requires-clause-live
sort-requires-clause-live c = c.requires.live c.at-id.result (at_in c.args.from.now.ids c.loop-next.next c.at-id.result c.at-id.ensures)

pub loop-next-preserved : goal.loop-next-preserved
loop-next-preserved c =
    record {
      so_far =
          choosing_more c.args.g.now c.is_graph.ensures c.args.test c.args.set.now.ids c.args.from.now.ids c.loop-next.chosen.ids c.sort.new.chosen.ids c.loop-next.next c.at-id.result c.loop-next.invariant.so_far
          (c.requires.live c.at-id.result (at_in c.args.from.now.ids c.loop-next.next c.at-id.result c.at-id.ensures)) c.at-id.ensures c.in_ok-sort.ensures.put;
      room = c.in_ok-sort.ensures.room ∙ c.loop-next.invariant.room;
    }

pub returns-clause-all : goal.returns-clause-all
returns-clause-all c =
    let done : length c.args.from.now.ids ≤ c.loop-next.next = omega arith in
    choosing_last c.args.g.now c.is_graph.ensures c.args.test c.args.set.now.ids c.args.from.now.ids c.loop-next.chosen.ids c.loop-next.next c.loop-next.invariant.so_far done

use Rattle.std.proofs.Common.{◌≤◌, length, arith, refl, ◌∙◌}
use Rattle.loop_find.proofs.Places.{at_in}
use Rattle.loop_find.proofs.Spreading.{spread_first, spread_live, spread_more, spread_last}
use Rattle.loop_find.proofs.spread.spread.Goals as goal

pub loop-next-init : goal.loop-next-init
loop-next-init c = record { so_far = spread_first c.args.g.now c.is_graph.ensures c.args.within.now.ids c.args.seen.now.ids c.requires.live; room = refl }

pub enter_joined-requires-clause-live : goal.enter_joined-requires-clause-live
enter_joined-requires-clause-live c =
    spread_live c.args.g.now c.is_graph.ensures c.args.within.now.ids c.args.seen.now.ids c.loop-next.seen.ids c.loop-next.next c.loop-next.invariant.so_far c.at-id.result
    (at_in c.loop-next.seen.ids c.loop-next.next c.at-id.result c.at-id.ensures)

pub loop-next-preserved : goal.loop-next-preserved
loop-next-preserved c =
    record {
      so_far =
          spread_more c.args.g.now c.is_graph.ensures c.args.within.now.ids c.args.seen.now.ids c.loop-next.seen.ids c.enter_joined.new.seen.ids c.loop-next.next c.at-id.result c.loop-next.invariant.so_far c.at-id.ensures
          c.in_ok-enter_joined.ensures.brings;
      room = c.in_ok-enter_joined.ensures.room ∙ c.loop-next.invariant.room;
    }

pub returns-clause-all : goal.returns-clause-all
returns-clause-all c =
    let done : length c.loop-next.seen.ids ≤ c.loop-next.next = omega arith in
    spread_last c.args.g.now c.is_graph.ensures c.args.within.now.ids c.args.seen.now.ids c.loop-next.seen.ids c.loop-next.next c.loop-next.invariant.so_far done

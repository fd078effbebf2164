use Rattle.std.proofs.Common.{◌≤◌, length, arith, ◌∙◌}
use Rattle.loop_find.proofs.Places.{at_in}
use Rattle.loop_find.proofs.Walking.{stepping_more, stepping_last}
use Rattle.loop_find.proofs.walk.step.Goals as goal

pub enter_followers-requires-clause-live : goal.enter_followers-requires-clause-live
enter_followers-requires-clause-live c = c.requires.live c.at-id.result (at_in c.args.from.now.ids c.loop-next.next c.at-id.result c.at-id.ensures)

pub loop-next-preserved : goal.loop-next-preserved
loop-next-preserved c =
    record {
      so_far =
          stepping_more c.args.g.now c.is_graph.ensures c.args.way c.args.from.now.ids c.loop-next.seen.ids c.enter_followers.new.seen.ids c.loop-next.next c.at-id.result c.loop-next.invariant.so_far c.at-id.ensures
          c.in_ok-enter_followers.ensures.grows c.in_ok-enter_followers.ensures.has;
      room = c.in_ok-enter_followers.ensures.room ∙ c.loop-next.invariant.room;
    }

pub returns-clause-all : goal.returns-clause-all
returns-clause-all c =
    let done : length c.args.from.now.ids ≤ c.loop-next.next = omega arith in
    stepping_last c.args.g.now c.is_graph.ensures c.args.way c.args.from.now.ids c.loop-next.seen.ids c.loop-next.next c.loop-next.invariant.so_far done

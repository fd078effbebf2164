use Rattle.std.proofs.Common.{◌≤◌, length, arith, refl, ◌∙◌}
use Rattle.loop_find.proofs.Places.{at_in}
use Rattle.loop_find.proofs.Walking.{underway_first, underway_live, underway_more, underway_last}
use Rattle.loop_find.proofs.walk.walk.Goals as goal

pub loop-next-init : goal.loop-next-init
loop-next-init c = record { so_far = underway_first c.args.g.now c.is_graph.ensures c.args.way c.args.seen.now.ids c.requires.live; room = refl }

pub enter_followers-requires-clause-live : goal.enter_followers-requires-clause-live
enter_followers-requires-clause-live c =
    underway_live c.args.g.now c.is_graph.ensures c.args.way c.args.seen.now.ids c.loop-next.seen.ids c.loop-next.next c.loop-next.invariant.so_far c.at-id.result
    (at_in c.loop-next.seen.ids c.loop-next.next c.at-id.result c.at-id.ensures)

pub loop-next-preserved : goal.loop-next-preserved
loop-next-preserved c =
    record {
      so_far =
          underway_more c.args.g.now c.is_graph.ensures c.args.way c.args.seen.now.ids c.loop-next.seen.ids c.enter_followers.new.seen.ids c.loop-next.next c.at-id.result c.loop-next.invariant.so_far c.at-id.ensures
          c.in_ok-enter_followers.ensures.grows c.in_ok-enter_followers.ensures.has;
      room = c.in_ok-enter_followers.ensures.room ∙ c.loop-next.invariant.room;
    }

pub returns-clause-all : goal.returns-clause-all
returns-clause-all c =
    let done : length c.loop-next.seen.ids ≤ c.loop-next.next = omega arith in
    underway_last c.args.g.now c.is_graph.ensures c.args.way c.args.seen.now.ids c.loop-next.seen.ids c.loop-next.next c.loop-next.invariant.so_far done

use Rattle.std.proofs.Common.{◌<◌, ◌≤◌, ◌∙◌, length, arith}
use Rattle.graph_core.specs.GraphValue.{name_by}
use Rattle.graph_core.specs.Place.{index_of}
use Rattle.loop_find.proofs.Places.{at_in}
use Rattle.loop_find.proofs.Unions.{uniting_more, uniting_last}
use Rattle.loop_find.proofs.feeders.insert_all.Goals as goal

pub insert-requires : goal.insert-requires
insert-requires c =
    let less : index_of c.at.result < c.args.g.now.slots =
    c.is_graph.ensures.within c.at.result (name_by c.args.g.now.ids c.at.result) (c.requires.live c.at.result (at_in c.args.from.now.ids c.loop-next.next c.at.result c.at.ensures)) in
    omega arith

pub loop-next-preserved : goal.loop-next-preserved
loop-next-preserved c =
    record {
      so_far = uniting_more c.args.seen.now.ids c.args.from.now.ids c.loop-next.seen.ids c.insert.new.self.ids c.loop-next.next c.at.result c.loop-next.invariant.so_far c.at.ensures c.in_ok-insert.ensures.put;
      room = c.in_ok-insert.ensures.room ∙ c.loop-next.invariant.room;
    }

pub returns-clause-both : goal.returns-clause-both
returns-clause-both c =
    let past : length c.args.from.now.ids ≤ c.loop-next.next = omega arith in
    uniting_last c.args.seen.now.ids c.args.from.now.ids c.loop-next.seen.ids c.loop-next.next c.loop-next.invariant.so_far past

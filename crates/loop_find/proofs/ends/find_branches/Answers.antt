use Rattle.std.proofs.Common.{◌≤◌, ◌∙◌, length, ap, arith}
use Rattle.graph_core.specs.GraphValue.{name_by}
use Rattle.loop_find.proofs.Endings.{ending_first, ending_more, ending_branches, ending_faulty, lane_at}
use Rattle.loop_find.proofs.ends.find_branches.Goals as goal

pub loop-next-init : goal.loop-next-init
loop-next-init c =
    record {
      so_far =
          ending_first c.args.g.now (name_by c.args.g.now.ids c.args.mark) c.args.goes_back c.args.lanes.now.ids c.clear.new.self.ids c.clear-2.new.self.ids (ap (λ v. v.ids) c.clear.ensures)
          (ap (λ v. v.ids) c.clear-2.ensures);
      back_room = λ i. c.args.back.now.room;
      branches_room = ap (λ v. v.room) c.clear.ensures;
      faulty_room = ap (λ v. v.room) c.clear-2.ensures;
    }

pub put_end-requires-clause-lane : goal.put_end-requires-clause-lane
put_end-requires-clause-lane c =
    (lane_at c.args.g.now (name_by c.args.g.now.ids c.args.mark) c.args.goes_back c.args.lanes.now.ids c.requires.lanes c.loop-next.next c.at-lane.result c.at-lane.ensures).0

pub loop-next-preserved : goal.loop-next-preserved
loop-next-preserved c =
    record {
      so_far =
          ending_more c.args.g.now (name_by c.args.g.now.ids c.args.mark) c.args.goes_back c.args.lanes.now.ids c.loop-next.branches.ids c.loop-next.faulty.ids c.loop-next.next c.loop-next.invariant.so_far
          c.at-lane.result c.at-lane.ensures (lane_at c.args.g.now (name_by c.args.g.now.ids c.args.mark) c.args.goes_back c.args.lanes.now.ids c.requires.lanes c.loop-next.next c.at-lane.result c.at-lane.ensures).1
          c.put_end.new.branches.ids c.put_end.new.faulty.ids c.in_ok-put_end.ensures.put;
      back_room = c.in_ok-put_end.ensures.back_room ∙ c.loop-next.invariant.back_room;
      branches_room = c.in_ok-put_end.ensures.branches_room ∙ c.loop-next.invariant.branches_room;
      faulty_room = c.in_ok-put_end.ensures.faulty_room ∙ c.loop-next.invariant.faulty_room;
    }

pub returns-clause-branches : goal.returns-clause-branches
returns-clause-branches c =
    let done : length c.args.lanes.now.ids ≤ c.loop-next.next = omega arith in
    ending_branches c.args.g.now (name_by c.args.g.now.ids c.args.mark) c.args.goes_back c.is_graph.ensures c.args.lanes.now.ids c.loop-next.branches.ids c.loop-next.faulty.ids c.loop-next.next
    c.loop-next.invariant.so_far done c.requires.lanes

pub returns-clause-faulty : goal.returns-clause-faulty
returns-clause-faulty c =
    let done : length c.args.lanes.now.ids ≤ c.loop-next.next = omega arith in
    ending_faulty c.args.g.now (name_by c.args.g.now.ids c.args.mark) c.args.goes_back c.is_graph.ensures c.args.lanes.now.ids c.loop-next.branches.ids c.loop-next.faulty.ids c.loop-next.next
    c.loop-next.invariant.so_far done c.requires.lanes

use Rattle.std.proofs.Common.{◌+◌, ◌≤◌, drop, get_or, length, sym, ◌∙◌, subst, arith}
use Rattle.std.proofs.lemmas.List.{drop_more, drop_all}
use Rattle.circuits.specs.Circuit.{circuit_of}
use Rattle.graph_core.specs.declared.place.NodeId.{NodeId}
use Rattle.graph_core.specs.GraphValue.{name_by}
use Rattle.loop_laws.specs.Reached.{IsLane}
use Rattle.loop_find.specs.NameOrders.{AreByName}
use Rattle.loop_find.proofs.LaneLists.{Listed, lane_at, listed_more, listed_last}
use Rattle.loop_find.proofs.lanes.lanes_by_name.Goals as goal

abbrev d : NodeId
d = record { index = 0 }

pub lane_of-requires-clause-lane : goal.lane_of-requires-clause-lane
lane_of-requires-clause-lane c =
    (lane_at c.args.g.now (IsLane (circuit_of c.args.g.now.graph) (name_by c.args.g.now.ids c.args.mark)) c.args.lanes.now.ids c.deref-id-items.result.now c.requires.lanes
    (subst (AreByName c.args.g.now c.args.lanes.now.ids) (sym c.deref-id-items.ensures.value) c.in_ok-ids.ensures) c.loop-id.id-index d c.loop-id-test.true).0

pub lane_of-requires-clause-live : goal.lane_of-requires-clause-live
lane_of-requires-clause-live c =
    (lane_at c.args.g.now (IsLane (circuit_of c.args.g.now.graph) (name_by c.args.g.now.ids c.args.mark)) c.args.lanes.now.ids c.deref-id-items.result.now c.requires.lanes
    (subst (AreByName c.args.g.now c.args.lanes.now.ids) (sym c.deref-id-items.ensures.value) c.in_ok-ids.ensures) c.loop-id.id-index d c.loop-id-test.true).1

pub loop-id-preserved : goal.loop-id-preserved
loop-id-preserved c =
    let ids = c.deref-id-items.result.now in
    let k = c.loop-id.id-index in
    record {
      so_far = listed_more c.args.g.now (name_by c.args.g.now.ids c.args.mark) c.args.goes_back c.loop-id.found.items c.push.new.self.items (drop (k + 1) ids) ids (get_or ids k d) c.in_ok-lane_of.field-0
          (subst (λ rest. Listed c.args.g.now (name_by c.args.g.now.ids c.args.mark) c.args.goes_back c.loop-id.found.items rest ids) (drop_more ids k d c.loop-id-test.true) c.loop-id.invariant.so_far)
          c.in_ok-lane_of.ensures.lane c.in_ok-lane_of.ensures.mux c.in_ok-push.ensures.items;
      room = c.lane_of.ensures.room ∙ c.loop-id.invariant.room;
    }

pub returns-clause-lanes : goal.returns-clause-lanes
returns-clause-lanes c =
    let ids = c.deref-id-items.result.now in
    let k = c.loop-id.id-index in
    let all : length ids ≤ k = omega arith in
    listed_last c.args.g.now (name_by c.args.g.now.ids c.args.mark) c.args.goes_back c.is_graph.ensures c.args.lanes.now.ids ids c.loop-id.found.items c.requires.lanes
    (subst (AreByName c.args.g.now c.args.lanes.now.ids) (sym c.deref-id-items.ensures.value) c.in_ok-ids.ensures)
    (subst (λ rest. Listed c.args.g.now (name_by c.args.g.now.ids c.args.mark) c.args.goes_back c.loop-id.found.items rest ids) (drop_all k ids all) c.loop-id.invariant.so_far)

use Rattle.std.proofs.Common.{◌≡◌, drop}
use Rattle.graph_core.specs.GraphValue.{name_by}
use Rattle.loop_find.proofs.LaneLists.{Listed}
use Rattle.loop_find.proofs.lanes.lanes_by_name.Given as goal

abbrev pub invariant-loop-id : goal.invariant-loop-id
invariant-loop-id l = record {
  so_far : Listed l.g (name_by l.g.ids l.mark) l.goes_back l.found.items (drop l.id-index l.id-items) l.id-items;
  room : l.back.room ≡ l.fn.back.room;
}

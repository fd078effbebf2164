use Rattle.std.proofs.Common.{◌≡◌, ◌-◌, length}
use Rattle.graph_core.specs.GraphValue.{name_by}
use Rattle.loop_find.proofs.Endings.{Ending}
use Rattle.loop_find.proofs.ends.find_branches.Given as goal

abbrev pub invariant-loop-next : goal.invariant-loop-next
invariant-loop-next l = record {
  so_far : Ending l.g (name_by l.g.ids l.mark) l.goes_back l.lanes.ids l.branches.ids l.faulty.ids l.next;
  back_room : l.back.room ≡ l.fn.back.room;
  branches_room : l.branches.room ≡ l.fn.branches.room;
  faulty_room : l.faulty.room ≡ l.fn.faulty.room;
}

abbrev pub decreases-loop-next : goal.decreases-loop-next
decreases-loop-next l = length l.lanes.ids - l.next

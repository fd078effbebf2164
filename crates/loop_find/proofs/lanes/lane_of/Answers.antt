use Rattle.std.proofs.Common.{subst}
use Rattle.graph_core.specs.GraphValue.{name_by}
use Rattle.loop_find.specs.Backs.{IsLaneEnd}
use Rattle.loop_find.proofs.LaneLists.{lane_by_branch}
use Rattle.loop_find.proofs.lanes.lane_of.Goals as goal

pub unreachable-requires : goal.unreachable-requires
unreachable-requires c =
    c.requires.whole (name_by c.args.g.now.ids c.args.lane)
    (subst (IsLaneEnd c.args.g.now (name_by c.args.g.now.ids c.args.mark) c.args.goes_back c.args.lane c.lane_branch.new.back.ids) c.in_default.is c.in_ok-branch.ensures.branch)

pub returns-clause-lane : goal.returns-clause-lane
returns-clause-lane c =
    lane_by_branch c.args.g.now (name_by c.args.g.now.ids c.args.mark) c.args.goes_back c.args.lane c.lane_branch.new.back.ids c.in-Some.branch c.in_ok-forward.field-0
    (subst (IsLaneEnd c.args.g.now (name_by c.args.g.now.ids c.args.mark) c.args.goes_back c.args.lane c.lane_branch.new.back.ids) c.in-Some.is c.in_ok-branch.ensures.branch) c.requires.live c.in_ok-forward.ensures

use Rattle.std.proofs.Common.{◌∙◌, ap, sym}
use Rattle.loop_laws.specs.Reached.{port_at}
use Rattle.graph_core.specs.GraphValue.{name_by}
use Rattle.loop_find.proofs.LaneEnds.{lane_fed, ends_at_branch}
use Rattle.loop_find.proofs.lane_branch.lane_branch.Goals as goal

pub find_back-requires-clause-fed : goal.find_back-requires-clause-fed
find_back-requires-clause-fed c =
    lane_fed c.args.g.now (name_by c.args.g.now.ids c.args.mark) c.args.goes_back c.args.lane c.requires.lane c.requires.typed (record { node = c.args.lane; port = c.back_in.result })
    (ap (port_at (name_by c.args.g.now.ids c.args.lane)) c.back_in.ensures)

pub returns-then-is_branch-clause-branch : goal.returns-then-is_branch-clause-branch
returns-then-is_branch-clause-branch c =
    ends_at_branch c.args.g.now (name_by c.args.g.now.ids c.args.mark) c.args.goes_back c.args.lane c.requires.lane (record { node = c.args.lane; port = c.back_in.result }) c.in_ok-source.source c.find_back.new.back.ids
    (ap (port_at (name_by c.args.g.now.ids c.args.lane)) c.back_in.ensures) c.in_ok-source.ensures.back (c.if-source-back_out.true ∙ c.back_out.ensures) (sym c.is_branch.ensures ∙ c.if-is_branch.true)

use Rattle.graph_core.specs.GraphValue.{name_by}
use Rattle.loop_find.proofs.LaneFields.{told_wide}
use Rattle.loop_find.proofs.fields.has_too_many_fields.Goals as goal

pub returns : goal.returns
returns c =
    λ goes_back. told_wide c.args.g.now c.is_graph.ensures (name_by c.args.g.now.ids c.args.mark) goes_back c.args.lanes.now.ids c.requires c.differ.ensures c.are_narrow.result c.are_narrow.ensures

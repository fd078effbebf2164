use Rattle.std.proofs.Common.{◌+◌, ◌∷◌, ap, sym, ◌∙◌, drop}
use Rattle.std.proofs.lemmas.List.{at_drop_more}
use Rattle.loop_find.specs.Spots.{all_lane_writes, lane_writes, written}
use Rattle.loop_find.proofs.SpotWrites.{written_both}
use Rattle.loop_find.proofs.spots.write_lanes.Goals as goal

pub loop-lane-preserved : goal.loop-lane-preserved
loop-lane-preserved c =
    let x = c.lane-item.result in
    let rest = drop (c.loop-lane.lane-index + 1) c.args.lanes.now in
    ap (written (all_lane_writes c.args.at c.args.exit rest)) c.write_lane.ensures ∙
    sym (written_both (lane_writes c.args.at c.args.exit x) (all_lane_writes c.args.at c.args.exit rest) c.loop-lane.spots.items) ∙
    ap (λ y. written (all_lane_writes c.args.at c.args.exit (y ∷ rest)) c.loop-lane.spots.items) c.lane-item.is ∙
    sym (at_drop_more (λ xs. written (all_lane_writes c.args.at c.args.exit xs) c.loop-lane.spots.items) c.args.lanes.now c.loop-lane.lane-index x c.loop-lane-test.true) ∙ c.loop-lane.invariant

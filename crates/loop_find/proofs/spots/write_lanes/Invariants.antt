use Rattle.std.proofs.Common.{◌≡◌, drop}
use Rattle.loop_find.specs.Spots.{all_lane_writes, written}
use Rattle.loop_find.proofs.spots.write_lanes.Given as goal

abbrev pub invariant-loop-lane : goal.invariant-loop-lane
invariant-loop-lane l = written (all_lane_writes l.at l.exit (drop l.lane-index l.lanes)) l.spots.items ≡ written (all_lane_writes l.at l.exit l.lanes) l.initial.spots.items

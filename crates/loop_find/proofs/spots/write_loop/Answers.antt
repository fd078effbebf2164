use Rattle.loop_find.proofs.SpotWrites.{loop_written}
use Rattle.loop_find.proofs.spots.write_loop.Goals as goal

pub returns : goal.returns
returns c =
    loop_written c.args.shape.now c.args.spots.now.items c.index-at.result c.exit.result c.index-at.ensures c.exit.ensures c.as_slice.result.now c.as_slice-2.result.now c.as_slice-3.result.now c.as_slice.ensures c.as_slice-2.ensures c.as_slice-3.ensures
    c.write_all.new.spots.items c.write_all-2.new.spots.items c.write_lanes.new.spots.items c.write.new.spots.items c.write_all.ensures c.write_all-2.ensures c.write_lanes.ensures c.write.ensures

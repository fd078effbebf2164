use Rattle.std.proofs.Common.{get_or, arith}
use Rattle.digraph.proofs.Places.{got_or}
use Rattle.digraph.proofs.GroupsTold.{tells_none, tells_more, tells_all}
use Rattle.digraph.proofs.grouping.tell.Goals as goal

pub index_mut-requires : goal.index_mut-requires
index_mut-requires c =
    let v = get_or c.args.group.now c.loop-vertex.vertex-index 0 in
    let less = c.requires v (c.loop-vertex.vertex-index, got_or c.args.group.now c.loop-vertex.vertex-index 0 c.loop-vertex-test.true) in
    omega (arith, less, c.loop-vertex.invariant.size)

pub loop-vertex-init : goal.loop-vertex-init
loop-vertex-init c = tells_none c.args.group.now c.args.cyclic c.args.told.now.items

pub loop-vertex-preserved : goal.loop-vertex-preserved
loop-vertex-preserved c =
    let v = get_or c.args.group.now c.loop-vertex.vertex-index 0 in
    let at = got_or c.args.group.now c.loop-vertex.vertex-index 0 c.loop-vertex-test.true in
    let less = c.requires v (c.loop-vertex.vertex-index, at) in
    tells_more c.args.group.now c.args.cyclic c.args.told.now.items c.loop-vertex.vertex-index v c.loop-vertex.told.items at (omega (arith, less, c.loop-vertex.invariant.size)) c.loop-vertex.invariant

pub returns : goal.returns
returns c = tells_all c.args.group.now c.args.cyclic c.args.told.now.items c.loop-vertex.vertex-index c.loop-vertex.told.items (omega (arith, c.loop-vertex-test.false)) c.loop-vertex.invariant

use Rattle.std.proofs.Common.{get_or, arith}
use Rattle.digraph.proofs.Places.{got_or}
use Rattle.digraph.proofs.GroupRows.{gathers_none, gathers_more, gathers_whole}
use Rattle.digraph.proofs.grouping.gather_row.Goals as goal

pub loop-vertex-init : goal.loop-vertex-init
loop-vertex-init c = gathers_none c.args.row.now c.args.grouped.now.items c.args.group.now.items

pub gather_one-requires : goal.gather_one-requires
gather_one-requires c =
    let less = c.requires c.loop-vertex.vertex-index (get_or c.args.row.now c.loop-vertex.vertex-index 0) (got_or c.args.row.now c.loop-vertex.vertex-index 0 c.loop-vertex-test.true) in
    omega (arith, less, c.loop-vertex.invariant.size)

pub loop-vertex-preserved : goal.loop-vertex-preserved
loop-vertex-preserved c =
    gathers_more c.args.row.now c.args.grouped.now.items c.args.group.now.items c.loop-vertex.vertex-index (get_or c.args.row.now c.loop-vertex.vertex-index 0)
    (got_or c.args.row.now c.loop-vertex.vertex-index 0 c.loop-vertex-test.true) c.loop-vertex.grouped.items c.loop-vertex.group.items c.loop-vertex.invariant
    c.gather_one.new.grouped.items c.gather_one.new.group.items c.in_ok-gather_one.ensures

pub returns : goal.returns
returns c =
    gathers_whole c.args.row.now c.loop-vertex.vertex-index c.args.grouped.now.items c.args.group.now.items c.loop-vertex.grouped.items c.loop-vertex.group.items c.loop-vertex.invariant
    (omega (arith, c.loop-vertex-test.false))

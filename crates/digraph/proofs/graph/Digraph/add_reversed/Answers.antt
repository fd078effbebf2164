use Rattle.std.proofs.Common.{arith, get_or, subst}
use Rattle.digraph.specs.Edges.{IsWithin}
use Rattle.digraph.proofs.Places.{got_or}
use Rattle.digraph.proofs.EdgeLists.{turned_none, turned_more, turned_all}
use Rattle.digraph.proofs.graph.Digraph.add_reversed.Goals as goal

pub loop-to-init : goal.loop-to-init
loop-to-init c = turned_none c.args.self.now c.args.from c.row-to-items.result.now c.args.back.now

pub add_edge-requires-clause-from : goal.add_edge-requires-clause-from
add_edge-requires-clause-from c =
    let to = get_or c.row-to-items.result.now c.loop-to.to-index 0 in
    let there = got_or c.row-to-items.result.now c.loop-to.to-index 0 c.loop-to-test.true in
    let within = subst IsWithin c.self.view_is c.self.invariant in
    let less = within c.args.from to (record { row = c.row-to-items.result.now; place = c.loop-to.to-index; is_row = c.row-to-items.ensures; is_there = there }) in
    omega (arith, less, c.requires.size, c.loop-to.invariant.size)

pub add_edge-requires-clause-to : goal.add_edge-requires-clause-to
add_edge-requires-clause-to c = omega (arith, c.requires.from, c.requires.size, c.loop-to.invariant.size)

pub loop-to-preserved : goal.loop-to-preserved
loop-to-preserved c =
    turned_more c.args.self.now c.args.from c.row-to-items.result.now c.args.back.now c.row-to-items.ensures c.loop-to.to-index (get_or c.row-to-items.result.now c.loop-to.to-index 0) c.loop-to.back c.add_edge.new.self
    (got_or c.row-to-items.result.now c.loop-to.to-index 0 c.loop-to-test.true) c.loop-to.invariant c.in_ok-add_edge.ensures.ok

pub returns : goal.returns
returns c = turned_all c.args.self.now c.args.from c.row-to-items.result.now c.args.back.now c.row-to-items.ensures c.loop-to.to-index c.loop-to.back c.loop-to.invariant (omega (arith, c.loop-to-test.false))

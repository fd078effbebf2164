use Rattle.std.proofs.Common.{arith}
use Rattle.digraph.proofs.EdgeLists.{turned_below_more, turned_below_all}
use Rattle.digraph.proofs.graph.Digraph.reversed.Goals as goal

pub loop-from-preserved : goal.loop-from-preserved
loop-from-preserved c = turned_below_more c.args.self.now c.loop-from.from c.loop-from.back c.add_reversed.new.back c.loop-from.invariant c.in_ok-add_reversed.ensures

pub returns : goal.returns
returns c = turned_below_all c.args.self.now c.loop-from.from c.loop-from.back c.loop-from.invariant (omega (arith, c.loop-from-test.false))

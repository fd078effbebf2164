use Rattle.std.proofs.Common.{sym, subst}
use Rattle.graph_read.proofs.NodeLists.{IsReadSoFar, none_read, one_more_read}
use Rattle.graph_read.proofs.nodes.read_nodes.Goals as goal

pub loop-index-init : goal.loop-index-init
loop-index-init c = subst (IsReadSoFar c.args.statements.now 0) (sym c.new-g.ensures) (none_read c.args.statements.now)

pub loop-index-preserved : goal.loop-index-preserved
loop-index-preserved c =
    let so_far = c.loop-index.invariant in
    one_more_read c.args.statements.now c.loop-index.index c.loop-index.g c.add_statement.new.g c.index-statements-index.result c.loop-index-test.true c.index-statements-index.is so_far
    (c.in_default.ensures so_far.nodes so_far.is.are.map)

use Rattle.std.proofs.Common.{rules}
use Rattle.drawn_rules.proofs.RowEnds.{ends_more}
use Rattle.drawn_rules.proofs.row_ends.push_ends.Goals as goal

pub loop-index-preserved : goal.loop-index-preserved
loop-index-preserved c =
    ends_more c.args.end c.args.ends c.args.letter.now c.args.shapes.now c.loop-index.index c.index-shapes-index.result c.push.new.self.items c.loop-index.nodes.items c.args.nodes.now.items c.in_ok-end_node.field-0
    (search (rules, c.index-shapes-index.is)) c.loop-index-test.true c.in_ok-push.ensures.items c.loop-index.invariant c.in_ok-end_node.ensures

use Rattle.drawn_rules.proofs.RowPlaces.{row_more}
use Rattle.drawn_rules.proofs.rows.push_wires.Goals as goal

pub loop-index-preserved : goal.loop-index-preserved
loop-index-preserved c =
    let from = c.end.ensures in
    let to = c.end-in-loop-index.ensures in
    row_more c.args.from c.args.to c.loop-index.index c.push.new.self.items c.loop-index.wires.items c.args.wires.now.items (c.end.result, c.end-in-loop-index.result)
    c.in_ok-push.ensures.items c.loop-index.invariant (λ i. (from i, to i))

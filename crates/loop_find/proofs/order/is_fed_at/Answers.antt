use Rattle.std.proofs.Common.{sym}
use Rattle.loop_find.proofs.Orders.{fed_placed, placed_by}
use Rattle.loop_find.proofs.order.is_fed_at.Goals as goal

pub returns-else-not-contains : goal.returns-else-not-contains
returns-else-not-contains c = (
  λ yes.
      fed_placed c.args.g.now c.is_graph.ensures c.args.body.now.ids c.args.placed.now.ids c.args.target c.in-Some.source (sym c.in-Some.ensures) (c.contains-else-not-contains.ensures.0 yes),
  λ at. c.contains-else-not-contains.ensures.1
      (placed_by c.args.g.now c.is_graph.ensures c.args.body.now.ids c.args.placed.now.ids c.args.target c.in-Some.source (sym c.in-Some.ensures) at (c.contains.ensures.0 c.if-not-contains.false)),
)

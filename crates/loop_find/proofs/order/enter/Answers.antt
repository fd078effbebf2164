use Rattle.loop_find.proofs.OrderTree.{queues_one}
use Rattle.loop_find.proofs.order.enter.Goals as goal

pub returns : goal.returns
returns c =
    queues_one c.args.g.now c.args.body.now.ids c.args.placed.now.ids c.name_of.result c.args.id c.name_of.ensures c.requires (c.is_next.ensures.0 c.if-not-is_next.false)
    c.args.ready.now.entries c.insert.new.self.entries c.in_ok-insert.ensures.entries

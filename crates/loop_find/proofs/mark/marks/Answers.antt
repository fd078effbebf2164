use Rattle.std.proofs.Common.{rules}
use Rattle.loop_find.proofs.MarkedNodes.{marks_are}
use Rattle.loop_find.proofs.mark.marks.Goals as goal

pub returns : goal.returns
returns c = search (rules, marks_are c.args.g.now c.in_ok-ids.ids.items)

use Rattle.std.proofs.Common.{sym}
use Rattle.gather_rule.proofs.Growing.{kind_behind}
use Rattle.gather_rule.proofs.lanes.kind_at.Goals as goal

pub returns : goal.returns
returns c = sym (kind_behind c.args.split.now c.args.nodes.now c.args.node c.in_ok-node_at.field-0.now c.if-node-eq0.false (sym c.in_ok-node_at.ensures))

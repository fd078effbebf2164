use Rattle.std.proofs.Common.{sym}
use Rattle.loop_body.proofs.Judged.{kind_behind}
use Rattle.loop_body.proofs.fitting.kind_at.Goals as goal

pub returns : goal.returns
returns c = sym (kind_behind c.args.split.now c.args.nodes.now c.args.node c.in_ok-node_at.field-0.now c.if-node-eq0.false (sym c.in_ok-node_at.ensures))

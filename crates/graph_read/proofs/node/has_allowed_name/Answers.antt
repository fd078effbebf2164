use Rattle.std.proofs.Common.{subst}
use Rattle.std.specs.Str.{IsUtf8}
use Rattle.graph_read.proofs.Names.{name_tested}
use Rattle.graph_read.proofs.node.has_allowed_name.Goals as goal

pub returns-clause-same : goal.returns-clause-same
returns-clause-same c = name_tested c.args.statement.now.name c.is_name.result c.is_name.ensures (subst IsUtf8 c.bytes.ensures.same c.bytes.ensures.utf8)

use Rattle.std.proofs.Common.{◌∙◌, sym, ap}
use Rattle.commands.specs.Status.{refusal_line, refusal_name}
use Rattle.commands.proofs.refusal.Refusal.line.Goals as goal

pub returns-in-Syntax : goal.returns-in-Syntax
returns-in-Syntax c = c.number_line.ensures (refusal_name c.args.self.now) ∙ sym (ap refusal_line c.in-Syntax.is)

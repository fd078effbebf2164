use Rattle.op_table.proofs.Widths.{typed_widths}
use Rattle.op_table.proofs.laws.typed_widths_are_few.Goals as goal

pub returns : goal.returns
returns c = typed_widths

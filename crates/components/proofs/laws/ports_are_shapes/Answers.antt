use Rattle.components.proofs.PortCounts as counts
use Rattle.components.proofs.laws.ports_are_shapes.Goals as goal

pub returns : goal.returns
returns c = counts.ports_are_shapes c.typed_widths_are_few.ensures

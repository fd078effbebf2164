use Rattle.part_drains.proofs.DrainLaws.{has_ports, replacement}
use Rattle.part_drains.proofs.replacement_keeps_drains.Goals as goal

pub returns-clause-ports : goal.returns-clause-ports
returns-clause-ports c = has_ports

pub returns-clause-drains : goal.returns-clause-drains
returns-clause-drains c = replacement (record { operators = c.value_fits.ensures; functions = c.fun_value_fits.ensures })

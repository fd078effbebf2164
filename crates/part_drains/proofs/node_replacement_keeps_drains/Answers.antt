use Rattle.part_drains.proofs.DrainLaws.{node_replacement, pair_replacement}
use Rattle.part_drains.proofs.node_replacement_keeps_drains.Goals as goal

pub returns-clause-one : goal.returns-clause-one
returns-clause-one c = node_replacement (record { operators = c.value_fits.ensures; functions = c.fun_value_fits.ensures })

pub returns-clause-pair : goal.returns-clause-pair
returns-clause-pair c = pair_replacement (record { operators = c.value_fits.ensures; functions = c.fun_value_fits.ensures })

use Rattle.part_drains.proofs.DrainLaws.{off_cycle}
use Rattle.part_drains.proofs.GraphNodes.{lists_nodes}
use Rattle.part_drains.proofs.off_cycle_fires_last.Goals as goal

pub returns-clause-lists : goal.returns-clause-lists
returns-clause-lists c = lists_nodes

pub returns-clause-tells : goal.returns-clause-tells
returns-clause-tells c = off_cycle

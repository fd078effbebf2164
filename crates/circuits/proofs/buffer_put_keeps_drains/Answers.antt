use Rattle.circuits.proofs.Buffers.DrainsWith.{drains_with}
use Rattle.circuits.proofs.Buffers.Graphs.{graph_put_drains}
use Rattle.circuits.proofs.buffer_put_keeps_drains.Goals as goal

pub returns-clause-circuit : goal.returns-clause-circuit
returns-clause-circuit c = λ d b ins outs ty can. drains_with d b can ty ins outs

pub returns-clause-graph : goal.returns-clause-graph
returns-clause-graph c = λ h g b ins outs ty w. graph_put_drains h g b ty w ins outs

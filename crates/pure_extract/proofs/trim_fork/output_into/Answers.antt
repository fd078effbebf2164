use Rattle.pure_extract.proofs.TrimForkLaws.FedBy.{no_target, no_source}
use Rattle.circuits.specs.Buffers.{first_port}
use Rattle.pure_extract.proofs.trim_fork.output_into.Goals as goal

pub returns-in_default : goal.returns-in_default
returns-in_default c = λ port. no_target c.args.g.now c.is_graph.ensures c.args.to.now c.in_default.ensures 1 (record { node = c.args.from.now; port = port })

pub returns-in_default-find : goal.returns-in_default-find
returns-in_default-find c = λ port. no_source c.args.g.now c.is_graph.ensures c.args.from.now c.in_default-find.ensures (first_port c.args.to.now) port

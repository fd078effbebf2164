use Rattle.std.proofs.Common.{Result, sym, subst}
use Rattle.graph_read.specs.declared.fault.GraphFaultKind.{GraphFaultKind}
use Rattle.graph_read.specs.GraphReading.{NamedWire}
use Rattle.graph_read.specs.GraphSteps.{IsJoined}
use Rattle.graph_read.proofs.edges.add_edge.Goals as goal

pub returns-clause-joined : goal.returns-clause-joined
returns-clause-joined c =
    let ends = c.in_ok-source.ensures in
    subst (λ (read : Result NamedWire GraphFaultKind). IsJoined read c.args.g.now.graph c.join.new.g.graph c.join.result) (sym ends.is_read)
    (c.join.ensures.joined ends.from ends.to ends.leaves ends.enters)

use Rattle.graph_core.proofs.Standing.{IsArena-empty, value-empty}
use Rattle.graph_core.proofs.graph.Graph.new.Goals as goal

pub invariant_of-result : goal.invariant_of-result
invariant_of-result c = IsArena-empty c.new.result c.new-2.result.ids c.new.ensures.cells c.new-2.ensures

pub returns : goal.returns
returns c = value-empty c.new.result c.new-2.result.ids c.new.ensures.cells c.new.ensures.slots c.new-2.ensures

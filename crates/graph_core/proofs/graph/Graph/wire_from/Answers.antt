use Rattle.std.proofs.Common.{MatchOption, ◌≡◌, ◌≢◌, Some, sym, subst}
use Rattle.std.specs.FinMap as finite
use Rattle.components.specs.Name.{Port}
use Rattle.graph_core.specs.GraphValue.{port_of}
use Rattle.graph_core.proofs.Standing.{feeds}
use Rattle.graph_core.proofs.graph.Graph.wire_from.Goals as goal

pub returns : goal.returns
returns c =
    subst (λ v. MatchOption c.end.result ((target : Port) → finite.get v.graph.feeders target ≢ Some (port_of v c.args.source)) (λ target. finite.get v.graph.feeders (port_of v target) ≡ Some (port_of v c.args.source))) c.self.view_is
    (feeds c.self.inside.cells c.self.inside.names.ids c.self.invariant c.args.source c.end.result (sym c.end.ensures))

use Rattle.std.proofs.Common.{◌≡◌, ◌∙◌, subst, ap}
use Rattle.std.specs.FinMap as finite
use Rattle.std.specs.Option.{option_map}
use Rattle.graph_core.specs.GraphValue.{port_of}
use Rattle.graph_core.specs.Inside.{value_of}
use Rattle.graph_core.proofs.Standing.{fed}
use Rattle.graph_core.proofs.graph.Graph.wire_into.Goals as goal

pub returns : goal.returns
returns c =
    subst (λ v. option_map (port_of v) c.end.result ≡ finite.get v.graph.feeders (port_of v c.args.target)) c.self.view_is
    (ap (option_map (port_of (value_of c.self.inside.cells c.self.inside.names.ids))) c.end.ensures ∙ fed c.self.inside.cells c.self.inside.names.ids c.self.invariant c.args.target)

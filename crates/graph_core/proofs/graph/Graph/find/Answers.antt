use Rattle.std.proofs.Common.{MatchOption, ◌≡◌, None, sym, subst}
use Rattle.std.specs.FinMap as finite
use Rattle.graph_core.specs.GraphValue.{Denotes}
use Rattle.graph_core.proofs.Standing.{finds}
use Rattle.graph_core.proofs.graph.Graph.find.Goals as goal

pub returns : goal.returns
returns c =
    subst (λ v. MatchOption c.get.result (finite.get v.graph.nodes c.args.name.now ≡ None) (λ id. Denotes v id c.args.name.now)) c.self.view_is
    (finds c.self.inside.cells c.self.inside.names.ids c.self.invariant c.args.name.now c.get.result (sym c.get.ensures))

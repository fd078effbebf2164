use Rattle.std.proofs.Common.{MatchOption, ◌≡◌, None, Some, rules, sym, subst}
use Rattle.std.specs.FinMap as finite
use Rattle.std.specs.Option.{option_copied}
use Rattle.graph_core.specs.GraphValue.{IsNodeAt}
use Rattle.graph_core.specs.Inside.{node_at}
use Rattle.graph_core.proofs.Standing.{node_is}
use Rattle.graph_core.proofs.graph.Graph.node.Goals as goal

pub returns-in_err-get : goal.returns-in_err-get
returns-in_err-get c =
    let dead : node_at c.self.inside.cells c.args.id ≡ None = search rules in
    let none : option_copied c.from_residual.result ≡ None = search rules in
    subst (λ o. MatchOption o (finite.get c.args.self.now.ids c.args.id ≡ None) (IsNodeAt c.args.self.now c.args.id)) (sym none)
    (subst (λ v. finite.get v.ids c.args.id ≡ None) c.self.view_is (node_is c.self.inside.cells c.self.inside.names.ids c.self.invariant c.args.id None dead))

pub returns : goal.returns
returns c =
    let live : node_at c.self.inside.cells c.args.id ≡ Some c.in_ok-get.field-0.now.node = search rules in
    subst (λ v. IsNodeAt v c.args.id c.in_ok-get.field-0.now.node) c.self.view_is (node_is c.self.inside.cells c.self.inside.names.ids c.self.invariant c.args.id (Some c.in_ok-get.field-0.now.node) live)

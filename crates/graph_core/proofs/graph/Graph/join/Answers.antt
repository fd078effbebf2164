use Rattle.std.proofs.Common.{◌∙◌, sym, ap, subst}
use Rattle.components.specs.NamedGraph.{CanWire}
use Rattle.graph_core.specs.GraphValue.{port_of, with_link}
use Rattle.graph_core.specs.Inside.{IsArena, value_of}
use Rattle.graph_core.proofs.Link.{can_link_by, link_ok, link_value}
use Rattle.graph_core.proofs.graph.Graph.join.Goals as goal

pub invariant_of-self : goal.invariant_of-self
invariant_of-self c =
    let can = can_link_by c.self.inside.cells c.self.inside.names.ids c.self.invariant c.args.source c.args.target
    (subst (λ v. CanWire v.graph (port_of v c.args.source) (port_of v c.args.target)) (sym c.self.view_is) c.requires) in
    subst (λ d. IsArena d c.self.inside.names.ids) (sym c.link.ensures) (link_ok c.self.inside.cells c.self.inside.names.ids c.self.invariant c.args.source c.args.target can)

pub returns : goal.returns
returns c =
    let can = can_link_by c.self.inside.cells c.self.inside.names.ids c.self.invariant c.args.source c.args.target
    (subst (λ v. CanWire v.graph (port_of v c.args.source) (port_of v c.args.target)) (sym c.self.view_is) c.requires) in
    ap (λ d. value_of d c.self.inside.names.ids) c.link.ensures
    ∙ link_value c.self.inside.cells c.self.inside.names.ids c.self.invariant c.args.source c.args.target can
    ∙ ap (λ v. with_link v c.args.source c.args.target) c.self.view_is

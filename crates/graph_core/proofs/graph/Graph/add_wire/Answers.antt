use Rattle.std.proofs.Common.{◌≡◌, ◌∙◌, Err, IfErr, rules, sym, ap, subst}
use Rattle.components.specs.NamedGraph.{CanWire}
use Rattle.graph_core.specs.GraphValue.{port_of, with_link}
use Rattle.graph_core.specs.Wiring.{Refuses}
use Rattle.graph_core.specs.Arena.{CanLink}
use Rattle.graph_core.specs.Inside.{IsArena, value_of}
use Rattle.graph_core.proofs.Link.{refuses, can_wire, link_ok, link_value}
use Rattle.graph_core.proofs.graph.Graph.add_wire.Goals as goal
use Rattle.graph_core.proofs.graph.Graph.add_wire.Goals.{In_ok-try_link}

pub try_link-requires : goal.try_link-requires
try_link-requires c id node live = (c.self.invariant.nodes id node live).kind

pub returns-in_err-try_link-clause-refused : goal.returns-in_err-try_link-clause-refused
returns-in_err-try_link-clause-refused c =
    let is : c.from_residual.result ≡ Err c.in_err-try_link.field-0.0 = search rules in
    subst (λ r. IfErr r (Refuses c.args.self.now.graph (port_of c.args.self.now c.args.source) (port_of c.args.self.now c.args.target))) (sym is)
    (subst (λ v. Refuses v.graph (port_of v c.args.source) (port_of v c.args.target) c.in_err-try_link.field-0.0) c.self.view_is
    (refuses c.self.inside.cells c.self.inside.names.ids c.self.invariant c.args.source c.args.target c.in_err-try_link.field-0.0 c.in_err-try_link.ensures))

can : (c : In_ok-try_link) → CanLink c.self.inside.cells c.args.source c.args.target
can c = c.in_ok-try_link.ensures

pub invariant_of-self : goal.invariant_of-self
invariant_of-self c =
    subst (λ d. IsArena d c.self.inside.names.ids) (sym c.link.ensures) (link_ok c.self.inside.cells c.self.inside.names.ids c.self.invariant c.args.source c.args.target (can (goal.at.invariant_of-self c).In_ok-try_link))

pub returns-clause-ok : goal.returns-clause-ok
returns-clause-ok c =
    ap (λ d. value_of d c.self.inside.names.ids) c.link.ensures
    ∙ link_value c.self.inside.cells c.self.inside.names.ids c.self.invariant c.args.source c.args.target (can (goal.at.returns-clause-ok c).In_ok-try_link)
    ∙ ap (λ v. with_link v c.args.source c.args.target) c.self.view_is

pub returns-clause-could : goal.returns-clause-could
returns-clause-could c =
    subst (λ v. CanWire v.graph (port_of v c.args.source) (port_of v c.args.target)) c.self.view_is
    (can_wire c.self.inside.cells c.self.inside.names.ids c.self.invariant c.args.source c.args.target (can (goal.at.returns-clause-could c).In_ok-try_link))

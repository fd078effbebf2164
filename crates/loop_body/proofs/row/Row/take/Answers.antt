use Rattle.std.proofs.Common.{ap, sym, ◌∙◌}
use Rattle.components.specs.Name.{port_get}
use Rattle.loop_body.proofs.Taking.{port_get-zero, port_taken, port_others}
use Rattle.loop_body.proofs.row.Row.take.Goals as goal

pub returns-then-port-eq0-clause-wire : goal.returns-then-port-eq0-clause-wire
returns-then-port-eq0-clause-wire c = sym (ap (port_get c.args.self.now) c.if-port-eq0.true ∙ port_get-zero c.args.self.now)

pub returns-clause-wire : goal.returns-clause-wire
returns-clause-wire c = c.put_at.ensures.old ∙ port_taken c.self.inside.wires.items c.args.port (λ e. c.if-port-eq0.false e) ∙ ap (λ row. port_get row c.args.port) c.self.view_is

pub returns-clause-others : goal.returns-clause-others
returns-clause-others c = λ other n.
    ap (λ row. port_get row other) c.put_at.ensures.new ∙ port_others c.self.inside.wires.items _ c.args.port other (λ e. c.if-port-eq0.false e) n ∙ ap (λ row. port_get row other) c.self.view_is

use Rattle.std.proofs.Common.{ap, subst}
use Rattle.graph_core.specs.Wiring.{Refuses}
use Rattle.graph_core.specs.GraphValue.{GraphValue, port_of}
use Rattle.graph_read.proofs.Joining.{joined, is_there, port_taken, shape_differs}
use Rattle.graph_read.proofs.edges.join.Goals as goal

pub returns-in-Ok-clause-joined : goal.returns-in-Ok-clause-joined
returns-in-Ok-clause-joined c = λ a b leaves enters.
    let g = c.args.g.now in
    let source = port_of g c.args.source in
    let target = port_of g c.args.target in
    (record { source = source; target = target }, joined g.graph source target a b leaves enters c.in-Ok.ensures.could, ap (λ (h : GraphValue). h.graph) c.in-Ok.ensures.ok)

pub returns-in-Err-UnknownPort-clause-joined : goal.returns-in-Err-UnknownPort-clause-joined
returns-in-Err-UnknownPort-clause-joined c = λ a b leaves enters.
    let g = c.args.g.now in
    absurd (subst (Refuses g.graph (port_of g c.args.source) (port_of g c.args.target)) c.in-Err-UnknownPort.field-0-is c.in-Err-UnknownPort.ensures.refused (is_there g.graph (port_of g c.args.source) (port_of g c.args.target) a b leaves enters))

pub returns-in-Err-PortTaken-clause-joined : goal.returns-in-Err-PortTaken-clause-joined
returns-in-Err-PortTaken-clause-joined c = λ a b leaves enters.
    let g = c.args.g.now in
    port_taken g.graph (port_of g c.args.source) (port_of g c.args.target) a b leaves enters (subst (Refuses g.graph (port_of g c.args.source) (port_of g c.args.target)) c.in-Err-PortTaken.field-0-is c.in-Err-PortTaken.ensures.refused)

pub returns-in-Err-ShapeDiffers-clause-joined : goal.returns-in-Err-ShapeDiffers-clause-joined
returns-in-Err-ShapeDiffers-clause-joined c = λ a b leaves enters.
    let g = c.args.g.now in
    shape_differs g.graph (port_of g c.args.source) (port_of g c.args.target) a b leaves enters (subst (Refuses g.graph (port_of g c.args.source) (port_of g c.args.target)) c.in-Err-ShapeDiffers.field-0-is c.in-Err-ShapeDiffers.ensures.refused)

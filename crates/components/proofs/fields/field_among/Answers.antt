use Rattle.std.proofs.Common.{◌∙◌, Some, arith, sym, ap}
use Rattle.components.specs.Fields.{field_of}
use Rattle.components.specs.Numbered.{within}
use Rattle.components.proofs.PortLists.{port_get-get_or}
use Rattle.components.proofs.fields.field_among.Goals as goal

pub overflow_sub-port : goal.overflow_sub-port
overflow_sub-port c = (within c.args.shapes.now c.args.port c.requires).some

pub bounds-shapes-port : goal.bounds-shapes-port
bounds-shapes-port c = let number = within c.args.shapes.now c.args.port c.requires in omega (arith, number.some, number.few)

pub returns : goal.returns
returns c =
    let number = within c.args.shapes.now c.args.port c.requires in
    let found = port_get-get_or c.args.shapes.now c.args.port c.index-shapes-port.result number.some number.few ∙ ap Some (sym c.index-shapes-port.is) in
    c.field_in.ensures ∙ ap (λ o. field_of o c.args.index) (sym found)

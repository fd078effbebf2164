use Rattle.std.proofs.Common.{◌∙◌, map, arith, sym, ap}
use Rattle.std.specs.Option.{option_map}
use Rattle.std.proofs.lemmas.List.{length-map}
use Rattle.components.specs.Kind.{field}
use Rattle.components.specs.Fields.{field_of}
use Rattle.components.specs.Numbered.{within}
use Rattle.components.proofs.PortLists.{port_get-get_or, port_get-map}
use Rattle.components.proofs.fields.operand_field.Goals as goal

pub overflow_sub-port : goal.overflow_sub-port
overflow_sub-port c = (within (map field c.args.widths.now) c.args.port c.requires).some

pub bounds-widths-port : goal.bounds-widths-port
bounds-widths-port c =
    let number = within (map field c.args.widths.now) c.args.port c.requires in
    omega (arith, number.some, number.few, length-map c.args.widths.now field)

pub returns : goal.returns
returns c =
    let number = within (map field c.args.widths.now) c.args.port c.requires in
    let found = port_get-map field c.args.widths.now c.args.port ∙ ap (option_map field) (port_get-get_or c.args.widths.now c.args.port 0 number.some (omega (arith, number.few, length-map c.args.widths.now field))) in
    c.single_field.ensures ∙ ap (λ o. field_of o c.args.index) (sym found)

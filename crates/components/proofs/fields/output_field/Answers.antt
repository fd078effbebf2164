use Rattle.std.proofs.Common.{◌∙◌, sym, ap, subst}
use Rattle.std.specs.Prelude.{IsSome}
use Rattle.components.specs.Kind.{outs}
use Rattle.components.specs.Name.{port_get}
use Rattle.components.specs.Fields.{field_of}
use Rattle.components.proofs.PortLists.{port_get-same}
use Rattle.components.proofs.fields.output_field.Goals as goal

pub returns-in-Fork : goal.returns-in-Fork
returns-in-Fork c =
    let is_there = subst (λ kind. IsSome (port_get (outs kind) c.args.port)) c.in-Fork.is c.requires.there in
    let found = ap (λ kind. port_get (outs kind) c.args.port) c.in-Fork.is ∙ port_get-same c.in-Fork.field-1 c.args.port c.in-Fork.shape is_there in
    c.field_in.ensures ∙ ap (λ o. field_of o c.args.index) (sym found)

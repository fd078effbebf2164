use Rattle.std.proofs.Common.{◌∙◌, sym, ap, subst}
use Rattle.std.specs.Prelude.{IsSome}
use Rattle.components.specs.Kind.{ins}
use Rattle.components.specs.Name.{port_get}
use Rattle.components.specs.Fields.{field_of}
use Rattle.components.proofs.PortLists.{port_get-same}
use Rattle.components.proofs.fields.input_field.Goals as goal

pub returns-in-Merge : goal.returns-in-Merge
returns-in-Merge c =
    let is_there = subst (λ kind. IsSome (port_get (ins kind) c.args.port)) c.in-Merge.is c.requires.there in
    let found = ap (λ kind. port_get (ins kind) c.args.port) c.in-Merge.is ∙ port_get-same c.in-Merge.field-1 c.args.port c.in-Merge.shape is_there in
    c.field_in-in-Merge.ensures ∙ ap (λ o. field_of o c.args.index) (sym found)

pub returns-in-CtrlMerge : goal.returns-in-CtrlMerge
returns-in-CtrlMerge c =
    let is_there = subst (λ kind. IsSome (port_get (ins kind) c.args.port)) c.in-CtrlMerge.is c.requires.there in
    let found = ap (λ kind. port_get (ins kind) c.args.port) c.in-CtrlMerge.is ∙ port_get-same c.in-CtrlMerge.field-1 c.args.port c.in-CtrlMerge.shape is_there in
    c.field_in-in-CtrlMerge.ensures ∙ ap (λ o. field_of o c.args.index) (sym found)

use Rattle.std.proofs.Common.{◌∙◌, sym, ap, subst, map}
use Rattle.op_table.specs.Operator.{IsTypedOp}
use Rattle.op_table.specs.Value.{InputsFit, op_value, widths_of}
use Rattle.components.specs.Kind.{field}
use Rattle.circuits.specs.PortTokens.{single}
use Rattle.states.proofs.Heads.{fit_count}
use Rattle.states.proofs.Lists.{field_count, zip_fit, zip_widths}
use Rattle.states.proofs.giving.values.operated.Goals as goal

pub args-requires : goal.args-requires
args-requires c = fit_count (map field c.args.widths.now) c.args.queues.now c.requires.fit ∙ field_count c.args.widths.now

pub apply-requires-clause-typed : goal.apply-requires-clause-typed
apply-requires-clause-typed c =
    subst (λ ws. IsTypedOp c.args.op ws c.args.width)
    (sym (ap widths_of (c.deref.ensures.value ∙ c.in_ok-args.ensures) ∙ zip_widths c.args.widths.now c.args.queues.now c.requires.fit)) c.requires.typed

pub apply-requires-clause-fit : goal.apply-requires-clause-fit
apply-requires-clause-fit c = subst InputsFit (sym (c.deref.ensures.value ∙ c.in_ok-args.ensures)) (zip_fit c.args.widths.now c.args.queues.now c.requires.fit)

pub returns : goal.returns
returns c =
    c.new.ensures ∙ c.in_ok-vec.ensures.items
    ∙ ap single (c.apply.ensures.value ∙ ap (λ args. op_value c.args.op args c.args.width) (c.deref.ensures.value ∙ c.in_ok-args.ensures))

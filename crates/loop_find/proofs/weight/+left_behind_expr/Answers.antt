use Rattle.std.proofs.Common.{◌<◌, ap, arith}
use Rattle.std.proofs.lemmas.List.{drop_all}
use Rattle.fun_expr.specs.Each.{total}
use Rattle.fun_expr.specs.Expr.{expr_size}
use Rattle.loop_find.proofs.ExprSizes.{size-field, size-lit, size_some, size_of_apply, total_step}
use Rattle.loop_find.proofs.weight.+left_behind_expr.Goals as goal

pub returns-then-size-eq0 : goal.returns-then-size-eq0
returns-then-size-eq0 t c = omega (arith, size_some c.args.e.now)

pub returns-in-Field : goal.returns-in-Field
returns-in-Field t c = omega (arith, ap expr_size c.in-Field.is, size-field c.in-Field.field-0, c.if-size-eq0.false)

pub returns-in-Lit : goal.returns-in-Lit
returns-in-Lit t c = omega (arith, ap expr_size c.in-Lit.is, size-lit c.in-Lit.field-0 c.in-Lit.field-1, c.if-size-eq0.false)

pub loop-arg-init : goal.loop-arg-init
loop-arg-init t c = omega (arith, c.if-size-eq0.false)

pub returns-in_err-left-in-Apply : goal.returns-in_err-left-in-Apply
returns-in_err-left-in-Apply t c =
    let size = size_of_apply c.args.e.now c.in-Apply.field-0 c.in-Apply.field-1 c.in-Apply.args c.as_slice-arg-items.result.now c.in-Apply.is c.as_slice-arg-items.ensures in
    let step = total_step expr_size c.as_slice-arg-items.result.now c.loop-arg.arg-index c.arg-item.result c.loop-arg-test.true c.arg-item.is in
    let large : c.loop-arg.left < expr_size c.arg-item.result = c.in_err-left-in-Apply.ensures in
    rw c.from_residual.ensures (omega (arith, size, step, large, c.loop-arg.invariant))

pub returns-after-loop-arg : goal.returns-after-loop-arg
returns-after-loop-arg t c =
    let size = size_of_apply c.args.e.now c.in-Apply.field-0 c.in-Apply.field-1 c.in-Apply.args c.as_slice-arg-items.result.now c.in-Apply.is c.as_slice-arg-items.ensures in
    let none = ap (total expr_size) (drop_all c.loop-arg.arg-index c.as_slice-arg-items.result.now (omega arith)) in
    omega (arith, size, none, c.loop-arg.invariant)

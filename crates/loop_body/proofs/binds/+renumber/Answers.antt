use Rattle.std.proofs.Common.{map, sym, ap, ◌∙◌, arith}
use Rattle.std.proofs.lemmas.List.{take_all}
use Rattle.fun_expr.specs.declared.expr.Expr.TheVariants.{Apply}
use Rattle.fun_expr.specs.Expr.{renumbered}
use Rattle.loop_body.proofs.ExprTrees.{renumbered-lit, renumbered-apply}
use Rattle.loop_body.proofs.binds.+renumber.Goals as goal

pub returns-in-Lit : goal.returns-in-Lit
returns-in-Lit t c = sym (ap (renumbered c.args.places.now) c.in-Lit.is ∙ renumbered-lit c.args.places.now c.in-Lit.width c.in-Lit.number)

pub returns-after-loop-arg : goal.returns-after-loop-arg
returns-after-loop-arg t c =
    let items = c.as_slice-arg-items.result.now in
    let all = ap (map (renumbered c.args.places.now)) (take_all c.loop-arg.arg-index items (omega arith) ∙ c.as_slice-arg-items.ensures) in
    ap (Apply c.in-Apply.op c.in-Apply.width) (c.loop-arg.invariant ∙ all) ∙
    sym (ap (renumbered c.args.places.now) c.in-Apply.is ∙ renumbered-apply c.args.places.now c.in-Apply.op c.in-Apply.width c.in-Apply.args)

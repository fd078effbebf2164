use Rattle.std.proofs.Common.{ap, sym, ◌∙◌, map, arith}
use Rattle.std.proofs.lemmas.Iterator.Adapters.{YieldsList-from_vec}
use Rattle.std.proofs.lemmas.Iterator.Consumers.{YieldsList-end}
use Rattle.fun_expr.specs.Each.{largest}
use Rattle.fun_expr.specs.Expr.{expr_depth}
use Rattle.loop_body.proofs.Depths.{depth_applied, depth_step, depth_whole, taken_all}
use Rattle.loop_body.proofs.wired.apply_to.Goals as goal

pub loop-arg-preserved : goal.loop-arg-preserved
loop-arg-preserved c =
    let inv = c.loop-arg.invariant in
    let step = depth_step c.loop-arg.exprs c.loop-arg.yielded c.push.new.self c.in-Some.arg c.into_expr.result c.loop-arg.levels c.levels.result c.max-levels.result inv.0 inv.1
    c.into_expr.ensures.same c.levels.ensures.levels (grind (arith, c.max-levels.ensures)) c.in_ok-push.ensures.ok in
    (step.0, step.1, grind (arith, c.max-levels.ensures, c.levels.ensures.few, inv.2))

pub invariant_of-result : goal.invariant_of-result
invariant_of-result c =
    let inv = c.loop-arg.invariant in
    (depth_applied c.args.op c.args.width c.loop-arg.levels c.loop-arg.exprs (inv.1 ∙ ap (λ es. largest (map expr_depth es)) (sym inv.0)), omega arith)

pub returns-then-levels-lt-MAX_LEVELS : goal.returns-then-levels-lt-MAX_LEVELS
returns-then-levels-lt-MAX_LEVELS c =
    let inv = c.loop-arg.invariant in
    let given = c.into_iter-arg-iterator.ensures.into_iter_gives in
    let all =
    (YieldsList-end (YieldsList-from_vec {s = c.into_iter-arg-iterator.result} c.args.args.items given.0 (given.1 ∙ c.args.args.ok.0))
    c.loop-arg.yielded c.loop-arg.arg-iterator c.loop-arg.yielded_by c.next.result c.next.new.self c.in-None.is c.next.ensures.steps).0
    in
    let whole = depth_whole c.args.op c.args.width c.loop-arg.levels c.loop-arg.exprs c.loop-arg.yielded c.args.args.items inv.0 inv.1 (taken_all c.loop-arg.yielded c.args.args.items all) in
    (whole.0, omega (arith, whole.1, inv.2))

pub returns-else-levels-lt-MAX_LEVELS : goal.returns-else-levels-lt-MAX_LEVELS
returns-else-levels-lt-MAX_LEVELS c =
    let inv = c.loop-arg.invariant in
    let given = c.into_iter-arg-iterator.ensures.into_iter_gives in
    let all =
    (YieldsList-end (YieldsList-from_vec {s = c.into_iter-arg-iterator.result} c.args.args.items given.0 (given.1 ∙ c.args.args.ok.0))
    c.loop-arg.yielded c.loop-arg.arg-iterator c.loop-arg.yielded_by c.next.result c.next.new.self c.in-None.is c.next.ensures.steps).0
    in
    let whole = depth_whole c.args.op c.args.width c.loop-arg.levels c.loop-arg.exprs c.loop-arg.yielded c.args.args.items inv.0 inv.1 (taken_all c.loop-arg.yielded c.args.args.items all) in
    (whole.0, omega (arith, whole.1, inv.2))

use Rattle.std.proofs.Common.{◌≡◌, ℕ, ◌+◌, ◌<◌, ap, subst, ◌∙◌}
use Rattle.std.specs.Prelude.{MatchOption}
use Rattle.fun_expr.specs.Function.{Function}
use Rattle.loop_find.proofs.ExprSizes.{weight_pure}
use Rattle.loop_find.proofs.weight.left_behind.Goals as goal

pub returns-in-Pure : goal.returns-in-Pure
returns-in-Pure c =
    let weighs = weight_pure c.args.kind.now c.in-Pure.fun c.in-Pure.field-1 c.as_slice.result.now c.in-Pure.is (c.as_slice.ensures ∙ ap (λ (f : Function). f.binds) c.fun.view_is) in
    subst (λ (n : ℕ). MatchOption c.left_behind_binds.result (c.args.left < n) (λ rest. rest + n ≡ c.args.left)) weighs c.left_behind_binds.ensures

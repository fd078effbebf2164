-- How many fields an environment needs for the places of an expression.
use Rattle.std.proofs.Common.{◌≡◌, ℕ, ◌+◌, List, map, ap, sym, ◌∙◌}
use Rattle.op_table.specs.declared.op.Op.{Op}
use Rattle.fun_expr.specs.Each.{largest}
use Rattle.fun_expr.specs.FunReading.{bound_step, places_bound}
use Rattle.fun_expr.specs.declared.expr.Expr.{Expr}
use Rattle.fun_expr.specs.declared.expr.Expr.TheVariants.{Field, Lit, Apply}
use Rattle.fun_expr.proofs.Trees.{at_field, at_lit, at_apply}

pub bound-field : (place : ℕ) → places_bound (Field place) ≡ place + 1
unfolding places_bound
bound-field place = at_field bound_step place

pub bound-lit : (width number : ℕ) → places_bound (Lit width number) ≡ 0
unfolding places_bound
bound-lit width number = at_lit bound_step width number

pub bound-apply : (op : Op) (width : ℕ) (args : List Expr) → places_bound (Apply op width args) ≡ largest (map places_bound args)
unfolding places_bound
bound-apply op width args = at_apply bound_step op width args

-- an operator, with its arguments
pub bound_of_apply : (e : Expr) (op : Op) (width : ℕ) (args items : List Expr) → e ≡ Apply op width args → items ≡ args → places_bound e ≡ largest (map places_bound items)
bound_of_apply e op width args items is same = ap places_bound is ∙ bound-apply op width args ∙ ap (λ xs. largest (map places_bound xs)) (sym same)

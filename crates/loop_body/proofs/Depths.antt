-- Levels of operators.
use Rattle.std.proofs.Common.{◌≡◌, ℕ, ◌+◌, List, [], ◌∷◌, ◌++◌, map, refl, ap, sym, ◌∙◌, arith}
use Rattle.std.specs.Prelude.{max}
use Rattle.op_table.specs.declared.op.Op.{Op}
use Rattle.fun_expr.specs.Each.{largest}
use Rattle.fun_expr.specs.Expr.{expr_depth}
use Rattle.fun_expr.specs.declared.expr.Expr.{Expr}
use Rattle.fun_expr.specs.declared.expr.Expr.TheVariants.{Apply}
use Rattle.loop_body.proofs.ExprTrees.{depth-apply}

pub depth_push : (es : List Expr) (e : Expr) → largest (map expr_depth (es ++ e ∷ [])) ≡ max (largest (map expr_depth es)) (expr_depth e)
depth_push [] e = grind arith
depth_push (x ∷ es) e = grind (arith, depth_push es e)

pub depth_applied : (op : Op) (width levels : ℕ) (es : List Expr) → levels ≡ largest (map expr_depth es) → levels + 1 ≡ expr_depth (Apply op width es)
depth_applied op width levels es h = omega (arith, h, depth-apply op width es)

pub depth_step : (exprs yielded more : List Expr) (e expr : Expr) (levels own most : ℕ) → exprs ≡ yielded → levels ≡ largest (map expr_depth yielded) → expr ≡ e → own ≡ expr_depth e → most ≡ max levels own → more ≡ exprs ++ expr ∷ [] →
    (more ≡ yielded ++ e ∷ []) × (most ≡ largest (map expr_depth (yielded ++ e ∷ [])))
depth_step exprs yielded more e expr levels own most same is_levels is_e is_own is_most is_more = (
  is_more ∙ ap (λ xs. xs ++ expr ∷ []) same ∙ ap (λ x. yielded ++ x ∷ []) is_e,
  is_most ∙ ap (λ n. max n own) is_levels ∙ ap (max (largest (map expr_depth yielded))) is_own ∙ sym (depth_push yielded e),
)

map-same : {A : Type 0} (xs : List A) → map (λ x. x) xs ≡ xs
map-same [] = refl
map-same (x ∷ xs) = ap (λ rest. x ∷ rest) (map-same xs)

-- all of them were taken
pub taken_all : {A : Type 0} (yielded items : List A) → map (λ x. x) yielded ≡ items → yielded ≡ items
taken_all yielded items h = sym (map-same yielded) ∙ h

-- the operator is on all arguments
pub depth_whole : (op : Op) (width levels : ℕ) (exprs yielded items : List Expr) → exprs ≡ yielded → levels ≡ largest (map expr_depth yielded) → yielded ≡ items →
    (Apply op width exprs ≡ Apply op width items) × (expr_depth (Apply op width items) ≡ levels + 1)
depth_whole op width levels exprs yielded items same is_levels all = (
  ap (Apply op width) (same ∙ all),
  sym (depth_applied op width levels items (is_levels ∙ ap (λ xs. largest (map expr_depth xs)) all)),
)

-- Sizes of expressions, and items of lists as loops go over them.
use Rattle.std.proofs.Common.{◌≡◌, ℕ, ◌+◌, ◌<◌, ◌≤◌, List, [], ◌∷◌, map, length, drop, get_or, Some, refl, ap, sym, ◌∙◌, subst, arith}
use Rattle.std.proofs.lemmas.List.{drop_more}
use Rattle.op_table.specs.declared.op.Op.{Op}
use Rattle.fun_expr.specs.Each.{total}
use Rattle.fun_expr.specs.Expr.{size_step, expr_size}
use Rattle.fun_expr.specs.Function.{Function, fun_size}
use Rattle.fun_expr.specs.declared.expr.Expr.{Expr}
use Rattle.fun_expr.specs.declared.expr.Expr.TheVariants.{Field, Lit, Apply, rolls-Field, rolls-Lit, rolls-Apply}
use Rattle.fun_expr.specs.declared.expr.Expr.TheViews.{roll-Expr}
use Rattle.fun_expr.specs.declared.expr.Expr.TheOpen.{Expr-F}
use Rattle.fun_expr.specs.declared.expr.Expr.TheFolds.{fold-Expr, fold-roll-Expr, ind-Expr, map-Expr}
use Rattle.components.specs.declared.kind.Kind.{Kind}
use Rattle.components.specs.declared.kind.Kind.TheVariants.{Pure}
use Rattle.components.specs.Kind.{Shape}
use Rattle.loop_laws.specs.Weight.{weight}

-- the size of each form
pub size-field : (place : ℕ) → expr_size (Field place) ≡ 1
unfolding expr_size
size-field place = ap (fold-Expr ℕ size_step) (sym (rolls-Field place)) ∙ fold-roll-Expr ℕ size_step (Expr-F.Field place)

pub size-lit : (width number : ℕ) → expr_size (Lit width number) ≡ 1
unfolding expr_size
size-lit width number = ap (fold-Expr ℕ size_step) (sym (rolls-Lit width number)) ∙ fold-roll-Expr ℕ size_step (Expr-F.Lit width number)

size-apply : (op : Op) (width : ℕ) (args : List Expr) → expr_size (Apply op width args) ≡ 1 + total (λ size. size) (map expr_size args)
unfolding expr_size
size-apply op width args = ap (fold-Expr ℕ size_step) (sym (rolls-Apply op width args)) ∙ fold-roll-Expr ℕ size_step (Expr-F.Apply op width args)

-- no expression has size 0
HasSize : Expr → Type 0
HasSize e = 1 ≤ expr_size e

at_level : (y : Expr-F ((e : Expr) × HasSize e)) → HasSize (roll-Expr (map-Expr ((e : Expr) × HasSize e) Expr (λ e. e.0) y))
unfolding HasSize
at_level (Expr-F.Field place) = subst HasSize (sym (rolls-Field place)) (omega (arith, size-field place))
at_level (Expr-F.Lit width number) = subst HasSize (sym (rolls-Lit width number)) (omega (arith, size-lit width number))
at_level (Expr-F.Apply op width args) =
    subst HasSize (sym (rolls-Apply op width (map (λ e. e.0) args))) (omega (arith, size-apply op width (map (λ e. e.0) args)))

pub size_some : (e : Expr) → 1 ≤ expr_size e
unfolding HasSize
size_some = ind-Expr HasSize (λ x y is. subst (λ z. HasSize (roll-Expr z)) is (at_level y))

total-map : (f : Expr → ℕ) (es : List Expr) → total (λ n. n) (map f es) ≡ total f es
total-map f [] = refl
total-map f (e ∷ es) = ap (λ n. f e + n) (total-map f es)

-- an operator, with its arguments
pub size_of_apply : (e : Expr) (op : Op) (width : ℕ) (args items : List Expr) → e ≡ Apply op width args → items ≡ args → expr_size e ≡ 1 + total expr_size items
size_of_apply e op width args items is same = ap expr_size is ∙ size-apply op width args ∙ ap (λ n. 1 + n) (total-map expr_size args) ∙ ap (λ xs. 1 + total expr_size xs) (sym same)

-- an item, with those behind it
pub total_step : {A : Type 0} (f : A → ℕ) (items : List A) (i : ℕ) (item : A) → i < length items → item ≡ get_or items i item → total f (drop i items) ≡ f item + total f (drop (i + 1) items)
total_step f items i item lt is = ap (total f) (drop_more items i item lt ∙ ap (λ x. x ∷ drop (i + 1) items) (sym is))

-- a Pure, by its binds
pub weight_pure : (kind : Kind) (f : Function) (shape : Shape) (items : List Expr) → kind ≡ Pure f shape → items ≡ f.binds → total expr_size items ≡ weight (Some kind)
unfolding fun_size
weight_pure kind f shape items is same = ap (total expr_size) same ∙ ap (λ k. weight (Some k)) (sym is)

-- Sizes and weights, item by item.
use Rattle.std.proofs.Common.{◌≡◌, ℕ, ◌+◌, ◌<◌, ◌≤◌, List, [], ◌∷◌, map, length, drop, get_or, refl, ap, sym, ◌∙◌, arith}
use Rattle.op_table.specs.declared.op.Op.{Op}
use Rattle.fun_expr.specs.Each.{total}
use Rattle.fun_expr.specs.Expr.{expr_size}
use Rattle.fun_expr.specs.declared.expr.Expr.{Expr}
use Rattle.fun_expr.specs.declared.expr.Expr.TheVariants.{Apply}
use Rattle.components.specs.declared.node.Node.{Node}
use Rattle.components.specs.declared.kind.Kind.{Kind}
use Rattle.components.specs.declared.kind.Kind.TheVariants.{Pure}
use Rattle.components.specs.Kind.{Shape}
use Rattle.fun_expr.specs.Function.{Function, fun_size}
use Rattle.loop_body.specs.BodyKind.{weight}
use Rattle.loop_body.specs.Judging.{kinds_of}
use Rattle.loop_body.proofs.Judged.{kind_first}
use Rattle.loop_body.proofs.ExprTrees.{induction, size-field, size-lit, size-apply}

pub size_some : (e : Expr) → 1 ≤ expr_size e
size_some = induction (λ e. 1 ≤ expr_size e)
    (λ place. omega (arith, size-field place))
    (λ width number. omega (arith, size-lit width number))
    (λ op width args hs. omega (arith, size-apply op width args))

total-map : (f : Expr → ℕ) (es : List Expr) → total (λ n. n) (map f es) ≡ total f es
total-map f [] = refl
total-map f (e ∷ es) = ap (λ n. f e + n) (total-map f es)

-- an operator, with its arguments
pub size_of_apply : (e : Expr) (op : Op) (width : ℕ) (args items : List Expr) → e ≡ Apply op width args → items ≡ args → expr_size e ≡ 1 + total expr_size items
size_of_apply e op width args items is same = ap expr_size is ∙ size-apply op width args ∙ ap (λ n. 1 + n) (total-map expr_size args) ∙ ap (λ xs. 1 + total expr_size xs) (sym same)

-- a node, with those behind it
pub weight_step : (nodes : List Node) (i : ℕ) (n : Node) → i < length nodes → n ≡ get_or nodes i n → total weight (drop i (kinds_of nodes)) ≡ weight n.kind + total weight (drop (i + 1) (kinds_of nodes))
weight_step nodes i n lt is = ap (total weight) (kind_first nodes i n lt is)

-- a Pure, by its binds
pub weight_pure : (kind : Kind) (f : Function) (shape : Shape) (items : List Expr) → kind ≡ Pure f shape → items ≡ f.binds → total expr_size items ≡ weight kind
unfolding fun_size
weight_pure kind f shape items is same = ap (total expr_size) same ∙ ap weight (sym is)

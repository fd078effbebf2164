-- The weight of a body: a bound on the size of its function.
use Rattle.std.specs.Prelude.{ℕ, ◌+◌, List, [], ◌∷◌, length, Option, Some}
use Rattle.fun_expr.specs.Function.{fun_size}
use Rattle.components.specs.declared.kind.Kind.{Kind}
use Rattle.components.specs.declared.kind.Kind.TheVariants.{Operator, Constant, Source0, Pure, Mux}
use Rattle.components.specs.Name.{Name}
use Rattle.circuits.specs.Circuit.{Circuit}

-- 4 for an Operator, 1 for a Constant, the function's size for a Pure, the number of its fields for a Source0, 0 for the others
abbrev pub weight : Option Kind → ℕ
weight (Some (Operator op widths width)) = 4
weight (Some (Constant shape width value)) = 1
weight (Some (Pure fun shape)) = fun_size fun
weight (Some (Source0 shape)) = length shape
weight _ = 0

abbrev pub weight_of : Circuit → List Name → ℕ
weight_of c [] = 0
weight_of c (n ∷ ns) = weight (c.kind_at n) + weight_of c ns

-- how many fields the tokens of a Mux have
abbrev pub fields_at : Option Kind → ℕ
fields_at (Some (Mux shape)) = length shape
fields_at _ = 0

abbrev pub fields_of : Circuit → List Name → ℕ
fields_of c [] = 0
fields_of c (n ∷ ns) = fields_at (c.kind_at n) + fields_of c ns

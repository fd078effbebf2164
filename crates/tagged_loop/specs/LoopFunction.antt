-- The function of a loop: it makes of a tuple the next one, and a bit that says whether the loop goes back.
use Rattle.std.specs.Prelude.{◌≡◌, ◌++◌}
use Rattle.fun_expr.specs.Function.{Function}
use Rattle.components.specs.declared.kind.Kind.TheVariants.{Pure}
use Rattle.components.specs.Kind.{Shape, field, KindOk}

-- what the Pure of a loop gives: a tuple of the shape and a bit
abbrev pub with_bit : Shape → Shape
with_bit shape = shape ++ field 1

-- the function takes tuples of the shape, and a Pure of it may stand in a graph and gives such a tuple and a bit
pub record IsLoopFunction (shape : Shape) (fun : Function) : Type 0 where
  pub input : fun.input ≡ shape
  pub ok : KindOk (Pure fun (with_bit shape))

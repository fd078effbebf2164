-- What is said of a function whose parts are read, within the limits: it is one, or a place is not there, or its types are wrong.
use Rattle.std.specs.Prelude.{◌≡◌, ℕ, List, length, Result, Ok, Err}
use Rattle.fun_expr.specs.declared.expr.Expr.{Expr}
use Rattle.fun_expr.specs.declared.fault.FunFault.{FunFault}
use Rattle.fun_expr.specs.declared.fault.FunFault.TheVariants.{FunSyntax, FunTooBig, FunIndex, FunTypes, NoMemory}
use Rattle.fun_expr.specs.Function.{Function, FunOk}
use Rattle.fun_expr.specs.FunReading.{function, PlacesThere}

abbrev pub Judged : List ℕ → List Expr → List ℕ → Result Function FunFault → Type 0
Judged input binds outs (Ok f) = (f ≡ function input binds outs) × FunOk f
Judged input binds outs (Err FunIndex) = PlacesThere (length input) binds outs → ⊥
Judged input binds outs (Err FunTypes) = PlacesThere (length input) binds outs × (FunOk (function input binds outs) → ⊥)
Judged input binds outs (Err NoMemory) = Unit {0}
Judged input binds outs (Err (FunSyntax byte)) = ⊥
Judged input binds outs (Err FunTooBig) = ⊥

-- The function that a text says, computed, so that the graph of a document can be. It is what the reader builds of the text,
-- where that is a function; a law says that this is the function of the grammar.
use Rattle.std.specs.Prelude.{ℕ, Bool, false, ◌&&◌, nat_le, nat_lt, List, length, Option, Some, None, Result, Ok, Err, if◌then◌else◌}
use Rattle.std.specs.List.{list_all}
use Rattle.fun_expr.specs.Expr.{expr_depth}
use Rattle.fun_expr.specs.Function.{Function, widths_after, fun_size}
use Rattle.fun_expr.specs.FunReading.{function}
use Rattle.fun_expr.specs.declared.fault.FunFault.{FunFault}
use Rattle.fun_expr.specs.declared.scan.Extent.{Extent}
use Rattle.fun_expr.specs.Machine.{begin}
use Rattle.fun_expr.specs.Counting.{nothing_counted, scanned}
use Rattle.fun_expr.specs.Building.{Parts, no_parts, built}

-- 1 to 128 widths, each from 0 to 64
abbrev pub is_shape : List ℕ → Bool
is_shape widths = nat_le 1 (length widths) && nat_le (length widths) 128 && list_all (λ width. nat_le width 64) widths

-- 1 to 128 places of the environment
abbrev pub are_outs : List ℕ → Option (List ℕ) → Bool
are_outs outs None = false
are_outs outs (Some widths) = list_all (λ out. nat_lt out (length widths)) outs && nat_le 1 (length outs) && nat_le (length outs) 128

-- a typed function of a shape, within the limits of size and depth
abbrev pub is_function : Function → Bool
is_function f =
    is_shape f.input && are_outs f.outs (widths_after f.input f.binds) && nat_le (fun_size f) 16384 && list_all (λ bind. nat_le (expr_depth bind) 64) f.binds

abbrev pub function_if : Function → Option Function
function_if f = if is_function f then Some f else None

abbrev pub said_of : List ℕ → Parts → Result Extent ℕ → Option Function
said_of input parts (Err at) = None
said_of input parts (Ok extent) = function_if (function input parts.binds parts.outs)

-- the function that the text says, for an input of these widths, if it says one
unfoldable pub fun_said : List ℕ → List ℕ → Option Function
fun_said text input = said_of input (built begin no_parts text) (scanned begin nothing_counted 0 text)

-- the function that is answered
abbrev pub function_in : Result Function FunFault → Option Function
function_in (Ok f) = Some f
function_in (Err fault) = None

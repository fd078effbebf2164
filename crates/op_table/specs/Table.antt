-- The table of operators as tests: which operator a name is, and whether widths are typed.
use Rattle.std.specs.Prelude.{ℕ, Bool, false, ◌&&◌, ◌==◌, nat_le, List, [], ◌∷◌, Option, Some, None, find, bytes_eq}
use Rattle.op_table.specs.declared.op.Op.{Op}
use Rattle.op_table.specs.declared.op.Op.TheVariants.{Add, Sub, Mul, Udiv, Urem, Sdiv, Srem, And, Or, Xor, Shl, Lshr, Ashr, Eq, Ne, Ult, Ule, Ugt, Uge, Slt, Sle, Sgt, Sge, Select, Zext, Sext, Trunc, Ret}
use Rattle.op_table.specs.Operator.{graph_word}

abbrev pub ops : List Op
ops =
    Add ∷ Sub ∷ Mul ∷ Udiv ∷ Urem ∷ Sdiv ∷ Srem ∷ And ∷ Or ∷ Xor ∷ Shl ∷ Lshr ∷ Ashr ∷ Eq ∷ Ne ∷ Ult ∷ Ule ∷ Ugt ∷ Uge ∷ Slt ∷ Sle ∷ Sgt ∷ Sge
    ∷ Select ∷ Zext ∷ Sext ∷ Trunc ∷ Ret ∷ []

-- the operator of a name in a graph
unfoldable pub op_named : List ℕ → Option Op
op_named word = find (λ op. bytes_eq (graph_word op) word) ops

abbrev pub is_width : ℕ → Bool
is_width width = nat_le 1 width && nat_le width 64

abbrev pub keeps_width : List ℕ → ℕ → Bool
keeps_width (first ∷ second ∷ []) out = (first == out) && (second == out) && is_width out
keeps_width _ out = false

abbrev pub compares : List ℕ → ℕ → Bool
compares (first ∷ second ∷ []) out = (second == first) && is_width first && (out == 1)
compares _ out = false

abbrev pub chooses : List ℕ → ℕ → Bool
chooses (choice ∷ first ∷ second ∷ []) out = (choice == 1) && (first == out) && (second == out) && is_width out
chooses _ out = false

abbrev pub widens : List ℕ → ℕ → Bool
widens (width ∷ []) out = is_width width && is_width out && nat_le width out
widens _ out = false

abbrev pub narrows : List ℕ → ℕ → Bool
narrows (width ∷ []) out = is_width width && is_width out && nat_le out width
narrows _ out = false

abbrev pub passes : List ℕ → ℕ → Bool
passes (width ∷ []) out = (width == out) && nat_le out 64
passes _ out = false

-- whether the widths are the columns of the operator's row
unfoldable pub is_typed_op : Op → List ℕ → ℕ → Bool
is_typed_op Eq ins out = compares ins out
is_typed_op Ne ins out = compares ins out
is_typed_op Ult ins out = compares ins out
is_typed_op Ule ins out = compares ins out
is_typed_op Ugt ins out = compares ins out
is_typed_op Uge ins out = compares ins out
is_typed_op Slt ins out = compares ins out
is_typed_op Sle ins out = compares ins out
is_typed_op Sgt ins out = compares ins out
is_typed_op Sge ins out = compares ins out
is_typed_op Select ins out = chooses ins out
is_typed_op Zext ins out = widens ins out
is_typed_op Sext ins out = widens ins out
is_typed_op Trunc ins out = narrows ins out
is_typed_op Ret ins out = passes ins out
is_typed_op _ ins out = keeps_width ins out

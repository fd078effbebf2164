-- The markers of a kind's ports are those of the format.
use Rattle.std.specs.Prelude.{◌≡◌, ℕ, Bool, true, false, ◌==◌, Option, None, refl, if◌then◌else◌}
use Rattle.op_table.specs.declared.op.Op.{Op}
use Rattle.op_table.specs.declared.op.Op.TheVariants.{Select}
use Rattle.port_types.specs.declared.side.Side.{Side}
use Rattle.port_types.specs.declared.side.Side.TheVariants.{Ins, Outs}
use Rattle.port_types.specs.PortGrammar.{is_marker_or_none}
use Rattle.components.specs.declared.kind.Kind.{Kind}
use Rattle.components.specs.declared.kind.Kind.TheVariants.{Operator, Mux, Branch, CtrlMerge}
use Rattle.graph_print.specs.CanonicalText.{condition, yes, no, marker, operand_marker}

either : (b : Bool) (x y : Option ℕ) → is_marker_or_none x ≡ true → is_marker_or_none y ≡ true → is_marker_or_none (if b then x else y) ≡ true
either true x y p q = p
either false x y p q = q

operand_ok : (op : Op) (number : ℕ) → is_marker_or_none (operand_marker op number) ≡ true
operand_ok Select number = either (number == 1) condition (if number == 2 then yes else no) refl (either (number == 2) yes no refl refl)
operand_ok _ number = refl

pub marker_ok : (kind : Kind) (side : Side) (number : ℕ) → is_marker_or_none (marker kind side number) ≡ true
marker_ok (Operator op widths width) Ins number = operand_ok op number
marker_ok (Mux shape) Ins number = either (number == 1) condition None refl refl
marker_ok (Branch shape) Ins number = either (number == 2) condition None refl refl
marker_ok (Branch shape) Outs number = either (number == 1) yes no refl refl
marker_ok (CtrlMerge shape count width) Outs number = either (number == 2) condition None refl refl
marker_ok _ _ number = refl

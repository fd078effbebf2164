-- Each port of a kind that meets its row has a shape.
use Rattle.std.proofs.Common.{◌≡◌, ℕ, zero, suc, ◌≤◌, List, [], ◌∷◌, length, map, replicate, Some, sym, subst, arith}
use Rattle.std.specs.Prelude.{All}
use Rattle.std.specs.List.{AllByRecursion, concat}
use Rattle.std.proofs.lemmas.List.{length-append}
use Rattle.std.proofs.lemmas.List.Elements.{All-append, All-nil, All-head, All-replicate, All-tail, recursion_from_All}
use Rattle.std.proofs.lemmas.Option.{same_Some, none-some}
use Rattle.op_table.specs.declared.op.Op.{Op}
use Rattle.op_table.specs.declared.op.Op.TheVariants.{Add, Sub, Mul, Udiv, Urem, Sdiv, Srem, And, Or, Xor, Shl, Lshr, Ashr, Eq, Ne, Ult, Ule, Ugt, Uge, Slt, Sle, Sgt, Sge, Select, Zext, Sext, Trunc, Ret}
use Rattle.op_table.specs.Operator.{IsTypedOp, KeepsWidth, Compares, Chooses, Widens, Narrows, Passes}
use Rattle.port_types.specs.Shape.{IsShape}
use Rattle.port_types.specs.declared.side.Side.{Side}
use Rattle.port_types.specs.declared.side.Side.TheVariants.{Ins, Outs}
use Rattle.components.specs.declared.kind.Kind.{Kind}
use Rattle.components.specs.declared.kind.Kind.TheVariants.{Entry, Exit, Buffer, Fork, Join, Split, Operator, Constant, Source0, Sink0, Pure, Mux, Branch, Merge, CtrlMerge, Init, Tagger}
use Rattle.components.specs.Kind.{Shape, field, ins, outs, ports, KindOk}
use Rattle.components.specs.Name.{port_get}

each_port : {A : Type 0} (P : A → Type 0) (xs : List A) (i : ℕ) (x : A) → AllByRecursion P xs → port_get xs i ≡ Some x → P x
each_port P [] i x each e = absurd (none-some _ e)
each_port P (y ∷ ys) zero x each e = absurd (none-some _ e)
each_port P (y ∷ ys) (suc zero) x each e = subst P (same_Some _ _ e) each.0
each_port P (y ∷ ys) (suc (suc i)) x each e = each_port P ys (suc i) x each.1 e

all_one : (count : ℕ) (shape : Shape) → IsShape shape → AllByRecursion IsShape (replicate count shape)
all_one count shape ok = recursion_from_All IsShape (replicate count shape) (All-replicate IsShape count shape ok)

field_shape : (width : ℕ) → width ≤ 64 → IsShape (field width)
field_shape width narrow = record { some = omega arith; few = omega arith; narrow = one }
  where
    one : All (λ w. w ≤ 64) (field width)
    one zero d below = narrow
    one (suc k) d below = absurd (omega (arith, below))

-- an operator's widths are at most 64
record Narrow (widths : List ℕ) (width : ℕ) : Type 0 where
  all : AllByRecursion (λ w. w ≤ 64) widths
  out : width ≤ 64

keeps : (widths : List ℕ) (width : ℕ) → KeepsWidth widths width → Narrow widths width
keeps widths width h = record { all = subst (AllByRecursion (λ w. w ≤ 64)) (sym h.0) (h.1.narrow, (h.1.narrow, tt)); out = h.1.narrow }

compares : (widths : List ℕ) (width : ℕ) → Compares widths width → Narrow widths width
compares widths width (w, e, ok, one) = record { all = subst (AllByRecursion (λ w. w ≤ 64)) (sym e) (ok.narrow, (ok.narrow, tt)); out = omega (arith, one) }

chooses : (widths : List ℕ) (width : ℕ) → Chooses widths width → Narrow widths width
chooses widths width h = record { all = subst (AllByRecursion (λ w. w ≤ 64)) (sym h.0) (omega arith, (h.1.narrow, (h.1.narrow, tt))); out = h.1.narrow }

widens : (widths : List ℕ) (width : ℕ) → Widens widths width → Narrow widths width
widens widths width (w, e, ok, also, more) = record { all = subst (AllByRecursion (λ w. w ≤ 64)) (sym e) (ok.narrow, tt); out = also.narrow }

narrows : (widths : List ℕ) (width : ℕ) → Narrows widths width → Narrow widths width
narrows widths width (w, e, ok, also, less) = record { all = subst (AllByRecursion (λ w. w ≤ 64)) (sym e) (ok.narrow, tt); out = also.narrow }

passes : (widths : List ℕ) (width : ℕ) → Passes widths width → Narrow widths width
passes widths width h = record { all = subst (AllByRecursion (λ w. w ≤ 64)) (sym h.0) (h.1, tt); out = h.1 }

narrow : (op : Op) (widths : List ℕ) (width : ℕ) → IsTypedOp op widths width → Narrow widths width
narrow Add widths width h = keeps widths width h
narrow Sub widths width h = keeps widths width h
narrow Mul widths width h = keeps widths width h
narrow Udiv widths width h = keeps widths width h
narrow Urem widths width h = keeps widths width h
narrow Sdiv widths width h = keeps widths width h
narrow Srem widths width h = keeps widths width h
narrow And widths width h = keeps widths width h
narrow Or widths width h = keeps widths width h
narrow Xor widths width h = keeps widths width h
narrow Shl widths width h = keeps widths width h
narrow Lshr widths width h = keeps widths width h
narrow Ashr widths width h = keeps widths width h
narrow Eq widths width h = compares widths width h
narrow Ne widths width h = compares widths width h
narrow Ult widths width h = compares widths width h
narrow Ule widths width h = compares widths width h
narrow Ugt widths width h = compares widths width h
narrow Uge widths width h = compares widths width h
narrow Slt widths width h = compares widths width h
narrow Sle widths width h = compares widths width h
narrow Sgt widths width h = compares widths width h
narrow Sge widths width h = compares widths width h
narrow Select widths width h = chooses widths width h
narrow Zext widths width h = widens widths width h
narrow Sext widths width h = widens widths width h
narrow Trunc widths width h = narrows widths width h
narrow Ret widths width h = passes widths width h

operands : (widths : List ℕ) → AllByRecursion (λ w. w ≤ 64) widths → AllByRecursion IsShape (map field widths)
operands [] each = tt
operands (w ∷ widths) each = (field_shape w each.0, operands widths each.1)

one : IsShape (field 1)
one = field_shape 1 (omega arith)

pub ins_ok : (kind : Kind) → KindOk kind → AllByRecursion IsShape (ins kind)
ins_ok (Entry shape) ok = tt
ins_ok (Exit shape) ok = (ok, tt)
ins_ok (Buffer shape) ok = (ok, tt)
ins_ok (Fork shape count) ok = (ok.0, tt)
ins_ok (Join shapes) ok = recursion_from_All IsShape shapes ok.parts
ins_ok (Split shapes) ok = (ok.whole, tt)
ins_ok (Operator op widths width) ok = operands widths (narrow op widths width ok).all
ins_ok (Constant shape width value) ok = (ok.0, tt)
ins_ok (Source0 shape) ok = tt
ins_ok (Sink0 shape) ok = (ok, tt)
ins_ok (Pure fun shape) ok = (ok.1.input, tt)
ins_ok (Mux shape) ok = (one, (ok, (ok, tt)))
ins_ok (Branch shape) ok = (ok, (one, tt))
ins_ok (Merge shape count) ok = all_one count shape ok.0
ins_ok (CtrlMerge shape count width) ok = all_one count shape ok.0
ins_ok (Init value mark) ok = (one, tt)
ins_ok (Tagger shape tags) ok = (ok.0, (ok.1, tt))

pub outs_ok : (kind : Kind) → KindOk kind → AllByRecursion IsShape (outs kind)
outs_ok (Entry shape) ok = (ok, tt)
outs_ok (Exit shape) ok = tt
outs_ok (Buffer shape) ok = (ok, tt)
outs_ok (Fork shape count) ok = all_one count shape ok.0
outs_ok (Join shapes) ok = (ok.whole, tt)
outs_ok (Split shapes) ok = recursion_from_All IsShape shapes ok.parts
outs_ok (Operator op widths width) ok = (field_shape width (narrow op widths width ok).out, tt)
outs_ok (Constant shape width value) ok = (field_shape width ok.1, tt)
outs_ok (Source0 shape) ok = (ok, tt)
outs_ok (Sink0 shape) ok = tt
outs_ok (Pure fun shape) ok = (ok.0, tt)
outs_ok (Mux shape) ok = (ok, tt)
outs_ok (Branch shape) ok = (ok, (ok, tt))
outs_ok (Merge shape count) ok = (ok.0, tt)
outs_ok (CtrlMerge shape count width) ok = (ok.0, (field_shape width ok.2, tt))
outs_ok (Init value mark) ok = (one, tt)
outs_ok (Tagger shape tags) ok = (ok.1, (ok.0, tt))

pub port_is_shape : (kind : Kind) → KindOk kind → (side : Side) (i : ℕ) (shape : Shape) → port_get (ports kind side) i ≡ Some shape → IsShape shape
port_is_shape kind ok Ins i shape e = each_port IsShape (ins kind) i shape (ins_ok kind ok) e
port_is_shape kind ok Outs i shape e = each_port IsShape (outs kind) i shape (outs_ok kind ok) e

joined_narrow : (shapes : List Shape) → All IsShape shapes → All (λ width. width ≤ 64) (concat shapes)
joined_narrow [] all = All-nil (λ width. width ≤ 64)
joined_narrow (shape ∷ shapes) all = All-append (λ width. width ≤ 64) shape (concat shapes) (All-head IsShape shape shapes all).narrow (joined_narrow shapes (All-tail IsShape shape shapes all))

joined_some : (shapes : List Shape) → 1 ≤ length shapes → All IsShape shapes → 1 ≤ length (concat shapes)
joined_some [] some all = absurd (omega (arith, some))
joined_some (shape ∷ shapes) some all =
    let first : 1 ≤ length shape = (All-head IsShape shape shapes all).some in
    omega (arith, first, length-append shape (concat shapes))

-- shapes with few fields together are a shape together
pub joined_shape : (shapes : List Shape) → 1 ≤ length shapes → All IsShape shapes → length (concat shapes) ≤ 128 → IsShape (concat shapes)
joined_shape shapes some all few = record { some = joined_some shapes some all; few = few; narrow = joined_narrow shapes all }

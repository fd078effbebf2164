-- How many ports a kind that meets its row has.
use Rattle.std.proofs.Common.{ℕ, ◌≤◌, length, replicate, arith}
use Rattle.std.proofs.lemmas.List.{length-map, length-replicate}
use Rattle.std.proofs.lemmas.List.Elements.{All-from_recursion}
use Rattle.op_table.specs.Laws.{TypedWidths}
use Rattle.port_types.specs.Shape.{IsShape}
use Rattle.port_types.specs.declared.side.Side.TheVariants.{Ins, Outs}
use Rattle.components.specs.declared.kind.Kind.{Kind}
use Rattle.components.specs.declared.kind.Kind.TheVariants.{Entry, Exit, Buffer, Fork, Join, Split, Operator, Constant, Source0, Sink0, Pure, Mux, Branch, Merge, CtrlMerge, Init, Tagger}
use Rattle.components.specs.Kind.{Shape, field, ins, outs, KindOk}
use Rattle.components.specs.Laws.{PortsAreShapes}
use Rattle.components.proofs.PortShapes.{ins_ok, outs_ok}

few_same : (count : ℕ) (shape : Shape) → count ≤ 64 → length (replicate count shape) ≤ 64
few_same count shape few = rw (length-replicate count shape) few

module _ (typed : TypedWidths) where
  few_ins : (kind : Kind) → KindOk kind → length (ins kind) ≤ 64
  few_ins (Entry shape) ok = omega arith
  few_ins (Exit shape) ok = omega arith
  few_ins (Buffer shape) ok = omega arith
  few_ins (Fork shape count) ok = omega arith
  few_ins (Join shapes) ok = ok.count.1
  few_ins (Split shapes) ok = omega arith
  few_ins (Operator op widths width) ok = omega (arith, length-map widths field, (typed op widths width ok).1)
  few_ins (Constant shape width value) ok = omega arith
  few_ins (Source0 shape) ok = omega arith
  few_ins (Sink0 shape) ok = omega arith
  few_ins (Pure fun shape) ok = omega arith
  few_ins (Mux shape) ok = omega arith
  few_ins (Branch shape) ok = omega arith
  few_ins (Merge shape count) ok = few_same count shape ok.1.1
  few_ins (CtrlMerge shape count width) ok = few_same count shape ok.1.1
  few_ins (Init value mark) ok = omega arith
  few_ins (Tagger shape tags) ok = omega arith

few_outs : (kind : Kind) → KindOk kind → length (outs kind) ≤ 64
few_outs (Entry shape) ok = omega arith
few_outs (Exit shape) ok = omega arith
few_outs (Buffer shape) ok = omega arith
few_outs (Fork shape count) ok = few_same count shape ok.1.1
few_outs (Join shapes) ok = omega arith
few_outs (Split shapes) ok = ok.count.1
few_outs (Operator op widths width) ok = omega arith
few_outs (Constant shape width value) ok = omega arith
few_outs (Source0 shape) ok = omega arith
few_outs (Sink0 shape) ok = omega arith
few_outs (Pure fun shape) ok = omega arith
few_outs (Mux shape) ok = omega arith
few_outs (Branch shape) ok = omega arith
few_outs (Merge shape count) ok = omega arith
few_outs (CtrlMerge shape count width) ok = omega arith
few_outs (Init value mark) ok = omega arith
few_outs (Tagger shape tags) ok = omega arith

pub ports_are_shapes : TypedWidths → PortsAreShapes
ports_are_shapes typed kind Ins ok = (few_ins typed kind ok, All-from_recursion IsShape (ins kind) (ins_ok kind ok))
ports_are_shapes typed kind Outs ok = (few_outs kind ok, All-from_recursion IsShape (outs kind) (outs_ok kind ok))

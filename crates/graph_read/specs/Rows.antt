-- The rows of the table of components: the kind of a node from its word, the shapes of its ports and its attributes.
use Rattle.std.specs.Prelude.{ℕ, ◌^◌, Bool, ◌&&◌, ◌==◌, nat_le, List, [], ◌∷◌, length, Option, Some, None, Result, Ok, Err, bytes_eq, codes, if◌then◌else◌}
use Rattle.std.specs.List.{list_all, concat}
use Rattle.op_table.specs.declared.op.Op.{Op}
use Rattle.op_table.specs.Table.{op_named, is_typed_op}
use Rattle.fun_expr.specs.Function.{Function, out_widths}
use Rattle.fun_expr.specs.Said.{fun_said}
use Rattle.port_types.specs.Tag.{tag_width}
use Rattle.components.specs.declared.kind.Kind.{Kind}
use Rattle.components.specs.declared.kind.Kind as kind
use Rattle.components.specs.Kind.{Shape, field}
use Rattle.components.specs.declared.component.Component.{Component}
use Rattle.components.specs.declared.component.Component.TheVariants.{Entry, Exit, Buffer, Fork, Join, Split, Operator, Constant, Source, Sink, Pure, Mux, Branch, Merge, CtrlMerge, Init, Tagger}
use Rattle.graph_read.specs.declared.fault.GraphFaultKind.{GraphFaultKind}
use Rattle.graph_read.specs.declared.fault.GraphFaultKind.TheVariants.{BadPorts, BadOp, BadValue, BadFun, BadTags}
use Rattle.graph_read.specs.Attributes.{Pair, last_value, value_of, tags_of}

abbrev pub Reading : Type 0
Reading = Result Kind GraphFaultKind

-- the kind, where the test of the ports holds
abbrev pub where_ports : Bool → Kind → Reading
where_ports are kind = if are then Ok kind else Err BadPorts

-- one shape at all of these ports
abbrev pub all_are : Shape → List Shape → Bool
all_are shape shapes = list_all (λ other. bytes_eq other shape) shapes

-- An Entry may also have its shape as an input, and an Exit as an output.

abbrev pub entry_at : List Shape → List Shape → Reading
entry_at [] (shape ∷ []) = Ok (kind.TheVariants.Entry shape)
entry_at (also ∷ []) (shape ∷ []) = where_ports (bytes_eq also shape) (kind.TheVariants.Entry shape)
entry_at _ _ = Err BadPorts

abbrev pub exit_at : List Shape → List Shape → Reading
exit_at (shape ∷ []) [] = Ok (kind.TheVariants.Exit shape)
exit_at (shape ∷ []) (also ∷ []) = where_ports (bytes_eq also shape) (kind.TheVariants.Exit shape)
exit_at _ _ = Err BadPorts

abbrev pub buffer_at : List Shape → List Shape → Reading
buffer_at (shape ∷ []) (out ∷ []) = where_ports (bytes_eq out shape) (kind.TheVariants.Buffer shape)
buffer_at _ _ = Err BadPorts

abbrev pub fork_at : List Shape → List Shape → Reading
fork_at (shape ∷ []) (out ∷ outs) = where_ports (all_are shape (out ∷ outs)) (kind.TheVariants.Fork shape (length (out ∷ outs)))
fork_at _ _ = Err BadPorts

abbrev pub join_at : List Shape → List Shape → Reading
join_at (shape ∷ shapes) (whole ∷ []) = where_ports (bytes_eq whole (concat (shape ∷ shapes))) (kind.TheVariants.Join (shape ∷ shapes))
join_at _ _ = Err BadPorts

abbrev pub split_at : List Shape → List Shape → Reading
split_at (whole ∷ []) (shape ∷ shapes) = where_ports (bytes_eq whole (concat (shape ∷ shapes))) (kind.TheVariants.Split (shape ∷ shapes))
split_at _ _ = Err BadPorts

abbrev pub source_at : List Shape → List Shape → Reading
source_at [] (shape ∷ []) = Ok (kind.TheVariants.Source0 shape)
source_at _ _ = Err BadPorts

abbrev pub sink_at : List Shape → List Shape → Reading
sink_at (shape ∷ []) [] = Ok (kind.TheVariants.Sink0 shape)
sink_at _ _ = Err BadPorts

abbrev pub mux_at : List Shape → List Shape → Reading
mux_at (select ∷ first ∷ second ∷ []) (out ∷ []) = where_ports (bytes_eq select (field 1) && all_are out (first ∷ second ∷ [])) (kind.TheVariants.Mux out)
mux_at _ _ = Err BadPorts

abbrev pub branch_at : List Shape → List Shape → Reading
branch_at (shape ∷ condition ∷ []) (first ∷ second ∷ []) =
    where_ports (bytes_eq condition (field 1) && all_are shape (first ∷ second ∷ [])) (kind.TheVariants.Branch shape)
branch_at _ _ = Err BadPorts

abbrev pub merge_at : List Shape → List Shape → Reading
merge_at (shape ∷ shapes) (out ∷ []) = where_ports (all_are out (shape ∷ shapes)) (kind.TheVariants.Merge out (length (shape ∷ shapes)))
merge_at _ _ = Err BadPorts

-- the second output tells the inputs apart
abbrev pub ctrl_merge_at : List Shape → List Shape → Reading
ctrl_merge_at (shape ∷ shapes) (out ∷ (width ∷ []) ∷ []) =
    where_ports (all_are out (shape ∷ shapes) && nat_le (length (shape ∷ shapes)) (2 ^ width)) (kind.TheVariants.CtrlMerge out (length (shape ∷ shapes)) width)
ctrl_merge_at _ _ = Err BadPorts

-- Kinds with attributes of their own

-- each port has one field
abbrev pub are_fields : List Shape → Bool
are_fields shapes = list_all (λ shape. length shape == 1) shapes

abbrev pub operator_typed : List ℕ → ℕ → Option Op → Reading
operator_typed widths width None = Err BadOp
operator_typed widths width (Some op) = if is_typed_op op widths width then Ok (kind.TheVariants.Operator op widths width) else Err BadOp

abbrev pub operator_named : List ℕ → ℕ → Option (List ℕ) → Reading
operator_named widths width None = Err BadOp
operator_named widths width (Some word) = operator_typed widths width (op_named word)

-- an Operator has one field at each port, and takes and gives what its operator does
abbrev pub operator_at : List Shape → List Shape → Option (List ℕ) → Reading
operator_at ins ((width ∷ []) ∷ []) op = if are_fields ins then operator_named (concat ins) width op else Err BadPorts
operator_at _ _ op = Err BadPorts

abbrev pub constant_with : Shape → ℕ → Option ℕ → Reading
constant_with shape width None = Err BadValue
constant_with shape width (Some value) = Ok (kind.TheVariants.Constant shape width value)

abbrev pub constant_of : Shape → ℕ → Option (List ℕ) → Reading
constant_of shape width None = Err BadValue
constant_of shape width (Some text) = constant_with shape width (value_of text)

abbrev pub constant_at : List Shape → List Shape → Option (List ℕ) → Reading
constant_at (shape ∷ []) ((width ∷ []) ∷ []) value = constant_of shape width value
constant_at _ _ value = Err BadPorts

abbrev pub pure_with : Shape → Option Function → Reading
pure_with out None = Err BadFun
pure_with out (Some fun) = if bytes_eq (out_widths fun) out then Ok (kind.TheVariants.Pure fun out) else Err BadFun

-- the text says a function of the input, which gives the output
abbrev pub pure_of : Shape → Shape → Option (List ℕ) → Reading
pure_of shape out None = Err BadFun
pure_of shape out (Some text) = pure_with out (fun_said text shape)

abbrev pub pure_at : List Shape → List Shape → Option (List ℕ) → Reading
pure_at (shape ∷ []) (out ∷ []) fun = pure_of shape out fun
pure_at _ _ fun = Err BadPorts

-- the mark of an Init, 0 where it has none
abbrev pub init_marked : ℕ → Option ℕ → Reading
init_marked value None = Err BadTags
init_marked value (Some mark) = Ok (kind.TheVariants.Init value mark)

abbrev pub mark_of : Option (List ℕ) → Option ℕ
mark_of None = Some 0
mark_of (Some text) = tags_of text

-- the value of an Init, 0 where it is absent
abbrev pub start_of : Option (List ℕ) → Option ℕ
start_of None = Some 0
start_of (Some text) = value_of text

abbrev pub init_with : Option ℕ → Option (List ℕ) → Reading
init_with None mark = Err BadValue
init_with (Some value) mark = if nat_le value 1 then init_marked value (mark_of mark) else Err BadValue

abbrev pub init_at : List Shape → List Shape → Option (List ℕ) → Option (List ℕ) → Reading
init_at (shape ∷ []) (out ∷ []) value mark = if all_are (field 1) (shape ∷ out ∷ []) then init_with (start_of value) mark else Err BadPorts
init_at _ _ value mark = Err BadPorts

abbrev pub tagger_with : Shape → ℕ → Option ℕ → Reading
tagger_with shape width None = Err BadTags
tagger_with shape width (Some tags) = if width == tag_width tags then Ok (kind.TheVariants.Tagger shape tags) else Err BadTags

abbrev pub tagger_of : Shape → ℕ → Option (List ℕ) → Reading
tagger_of shape width None = Err BadTags
tagger_of shape width (Some text) = tagger_with shape width (tags_of text)

-- one tag of some width stands before the fields; it has to be that of the number of tags
abbrev pub tagger_at : List Shape → List Shape → Option (List ℕ) → Reading
tagger_at (shape ∷ back ∷ []) ((width ∷ fields) ∷ out ∷ []) tags =
    if all_are shape (fields ∷ out ∷ []) && bytes_eq back (width ∷ fields) then tagger_of shape width tags else Err BadPorts
tagger_at _ _ tags = Err BadPorts

-- the kind of a component with ports of these shapes
abbrev pub row_reading : Component → List Shape → List Shape → List Pair → Reading
row_reading Entry ins outs pairs = entry_at ins outs
row_reading Exit ins outs pairs = exit_at ins outs
row_reading Buffer ins outs pairs = buffer_at ins outs
row_reading Fork ins outs pairs = fork_at ins outs
row_reading Join ins outs pairs = join_at ins outs
row_reading Split ins outs pairs = split_at ins outs
row_reading Operator ins outs pairs = operator_at ins outs (last_value (codes "op") pairs)
row_reading Constant ins outs pairs = constant_at ins outs (last_value (codes "value") pairs)
row_reading Source ins outs pairs = source_at ins outs
row_reading Sink ins outs pairs = sink_at ins outs
row_reading Pure ins outs pairs = pure_at ins outs (last_value (codes "fun") pairs)
row_reading Mux ins outs pairs = mux_at ins outs
row_reading Branch ins outs pairs = branch_at ins outs
row_reading Merge ins outs pairs = merge_at ins outs
row_reading CtrlMerge ins outs pairs = ctrl_merge_at ins outs
row_reading Init ins outs pairs = init_at ins outs (last_value (codes "value") pairs) (last_value (codes "ooo") pairs)
row_reading Tagger ins outs pairs = tagger_at ins outs (last_value (codes "tags") pairs)

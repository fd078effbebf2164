-- The table of components: what each kind of node has at its ports.
use Rattle.std.specs.Prelude.{◌≡◌, ℕ, ◌^◌, ◌≤◌, List, [], ◌∷◌, map, replicate, length, All}
use Rattle.std.specs.List.{concat}
use Rattle.op_table.specs.Operator.{IsTypedOp}
use Rattle.fun_expr.specs.Function.{FunOk, out_widths}
use Rattle.port_types.specs.Shape.{IsShape}
use Rattle.port_types.specs.Tag.{tag_width}
use Rattle.port_types.specs.declared.side.Side.{Side}
use Rattle.port_types.specs.declared.side.Side.TheVariants.{Ins, Outs}
use Rattle.components.specs.declared.kind.Kind.{Kind}
use Rattle.components.specs.declared.kind.Kind.TheVariants.{Entry, Exit, Buffer, Fork, Join, Split, Operator, Constant, Source0, Sink0, Pure, Mux, Branch, Merge, CtrlMerge, Init, Tagger}

-- the widths of the fields
abbrev pub Shape : Type 0
Shape = List ℕ

-- a shape of one field
abbrev pub field : ℕ → Shape
field width = width ∷ []

-- a tag that tells so many apart, and then the fields of the shape
abbrev pub tagged : ℕ → Shape → Shape
tagged tags shape = tag_width tags ∷ shape

-- the shapes of the inputs, in order
abbrev pub ins : Kind → List Shape
ins (Entry shape) = []
ins (Exit shape) = shape ∷ []
ins (Buffer shape) = shape ∷ []
ins (Fork shape count) = shape ∷ []
ins (Join shapes) = shapes
ins (Split shapes) = concat shapes ∷ []
ins (Operator op widths width) = map field widths
ins (Constant shape width value) = shape ∷ []
ins (Source0 shape) = []
ins (Sink0 shape) = shape ∷ []
ins (Pure fun shape) = fun.input ∷ []
ins (Mux shape) = field 1 ∷ shape ∷ shape ∷ []
ins (Branch shape) = shape ∷ field 1 ∷ []
ins (Merge shape count) = replicate count shape
ins (CtrlMerge shape count width) = replicate count shape
ins (Init value mark) = field 1 ∷ []
ins (Tagger shape tags) = shape ∷ tagged tags shape ∷ []

-- the shapes of the outputs, in order
abbrev pub outs : Kind → List Shape
outs (Entry shape) = shape ∷ []
outs (Exit shape) = []
outs (Buffer shape) = shape ∷ []
outs (Fork shape count) = replicate count shape
outs (Join shapes) = concat shapes ∷ []
outs (Split shapes) = shapes
outs (Operator op widths width) = field width ∷ []
outs (Constant shape width value) = field width ∷ []
outs (Source0 shape) = shape ∷ []
outs (Sink0 shape) = []
outs (Pure fun shape) = shape ∷ []
outs (Mux shape) = shape ∷ []
outs (Branch shape) = shape ∷ shape ∷ []
outs (Merge shape count) = shape ∷ []
outs (CtrlMerge shape count width) = shape ∷ field width ∷ []
outs (Init value mark) = field 1 ∷ []
outs (Tagger shape tags) = tagged tags shape ∷ shape ∷ []

-- the shapes of one side
abbrev pub ports : Kind → Side → List Shape
ports kind Ins = ins kind
ports kind Outs = outs kind

-- 1 to 64
abbrev pub IsCount : ℕ → Type 0
IsCount count = (1 ≤ count) × (count ≤ 64)

-- 1 to 64 shapes, with at most 128 fields together
pub record AreParts (shapes : List Shape) : Type 0 where
  pub count : IsCount (length shapes)
  pub parts : All IsShape shapes
  pub whole : IsShape (concat shapes)

-- what the kind's row of the table asks
abbrev pub KindOk : Kind → Type 0
KindOk (Entry shape) = IsShape shape
KindOk (Exit shape) = IsShape shape
KindOk (Buffer shape) = IsShape shape
KindOk (Fork shape count) = IsShape shape × IsCount count
KindOk (Join shapes) = AreParts shapes
KindOk (Split shapes) = AreParts shapes
KindOk (Operator op widths width) = IsTypedOp op widths width
KindOk (Constant shape width value) = IsShape shape × (width ≤ 64)
KindOk (Source0 shape) = IsShape shape
KindOk (Sink0 shape) = IsShape shape
KindOk (Pure fun shape) = IsShape shape × FunOk fun × (out_widths fun ≡ shape)
KindOk (Mux shape) = IsShape shape
KindOk (Branch shape) = IsShape shape
KindOk (Merge shape count) = IsShape shape × IsCount count
KindOk (CtrlMerge shape count width) = IsShape shape × IsCount count × (width ≤ 64) × (count ≤ 2 ^ width)
KindOk (Init value mark) = (value ≤ 1) × (mark ≤ 256)
KindOk (Tagger shape tags) = IsShape shape × IsShape (tagged tags shape) × (1 ≤ tags) × (tags ≤ 256)

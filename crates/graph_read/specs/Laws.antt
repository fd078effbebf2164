-- Laws of the rows: which kind is read, from its component, the shapes of its ports and its attributes.
use Rattle.std.specs.Prelude.{◌≡◌, ◌↔◌, ◌⊎◌, ℕ, ◌^◌, ◌<◌, ◌≤◌, false, List, [], ◌∷◌, ◌++◌, length, Some, None, Ok, All, codes}
use Rattle.std.specs.Fmt.{decimal, digits}
use Rattle.op_table.specs.Operator.{graph_word}
use Rattle.fun_expr.specs.FunGrammar.{IsFunText}
use Rattle.fun_expr.specs.Function.{Function}
use Rattle.port_types.specs.Shape.{IsShape}
use Rattle.components.specs.declared.kind.Kind.{Kind}
use Rattle.components.specs.declared.kind.Kind.TheVariants.{Entry, Exit, Buffer, Fork, Join, Split, Operator, Constant, Source0, Sink0, Pure, Mux, Branch, Merge, CtrlMerge, Init, Tagger}
use Rattle.components.specs.Kind.{Shape, ins, outs, KindOk}
use Rattle.components.specs.declared.component.Component.{Component}
use Rattle.components.specs.Component.{component_at}
use Rattle.graph_read.specs.Attributes.{Pair, last_value, value_of, tags_of}
use Rattle.graph_read.specs.Rows.{row_reading}

-- exactly the ports that the kind has in a graph
abbrev pub HasOwnPorts : Kind → List Shape → List Shape → Type 0
HasOwnPorts kind inputs outputs = (inputs ≡ ins kind) × (outputs ≡ outs kind)

-- the ports that a statement of the kind may have: an Entry also its shape as an input, and an Exit as an output
abbrev pub HasPorts : Kind → List Shape → List Shape → Type 0
HasPorts (Entry shape) inputs outputs = ((inputs ≡ []) ⊎ (inputs ≡ shape ∷ [])) × (outputs ≡ shape ∷ [])
HasPorts (Exit shape) inputs outputs = (inputs ≡ shape ∷ []) × ((outputs ≡ []) ⊎ (outputs ≡ shape ∷ []))
HasPorts (Buffer shape) inputs outputs = HasOwnPorts (Buffer shape) inputs outputs
HasPorts (Fork shape count) inputs outputs = HasOwnPorts (Fork shape count) inputs outputs
HasPorts (Join shapes) inputs outputs = HasOwnPorts (Join shapes) inputs outputs
HasPorts (Split shapes) inputs outputs = HasOwnPorts (Split shapes) inputs outputs
HasPorts (Operator op widths width) inputs outputs = HasOwnPorts (Operator op widths width) inputs outputs
HasPorts (Constant shape width value) inputs outputs = HasOwnPorts (Constant shape width value) inputs outputs
HasPorts (Source0 shape) inputs outputs = HasOwnPorts (Source0 shape) inputs outputs
HasPorts (Sink0 shape) inputs outputs = HasOwnPorts (Sink0 shape) inputs outputs
HasPorts (Pure fun shape) inputs outputs = HasOwnPorts (Pure fun shape) inputs outputs
HasPorts (Mux shape) inputs outputs = HasOwnPorts (Mux shape) inputs outputs
HasPorts (Branch shape) inputs outputs = HasOwnPorts (Branch shape) inputs outputs
HasPorts (Merge shape count) inputs outputs = HasOwnPorts (Merge shape count) inputs outputs
HasPorts (CtrlMerge shape count width) inputs outputs = HasOwnPorts (CtrlMerge shape count width) inputs outputs
HasPorts (Init value mark) inputs outputs = HasOwnPorts (Init value mark) inputs outputs
HasPorts (Tagger shape tags) inputs outputs = HasOwnPorts (Tagger shape tags) inputs outputs

-- the pairs say this value
abbrev pub SaysValue : List Pair → ℕ → Type 0
SaysValue pairs value = (text : List ℕ) × (last_value (codes "value") pairs ≡ Some text) × (value_of text ≡ Some value)

-- the pairs say this number of tags under a key
abbrev pub SaysTags : List ℕ → List Pair → ℕ → Type 0
SaysTags key pairs tags = (text : List ℕ) × (last_value key pairs ≡ Some text) × (tags_of text ≡ Some tags)

-- the pairs say this function, by the grammar of functions
abbrev pub SaysFunction : List Pair → Function → Type 0
SaysFunction pairs fun = (text : List ℕ) × (last_value (codes "fun") pairs ≡ Some text) × IsFunText text fun.binds fun.outs

-- an absent attribute says 0
abbrev pub IsAbsent : List ℕ → List Pair → ℕ → Type 0
IsAbsent key pairs number = (last_value key pairs ≡ None) × (number ≡ 0)

-- the pairs say the attributes of the kind
abbrev pub Says : Kind → List Pair → Type 0
Says (Entry shape) pairs = Unit {0}
Says (Exit shape) pairs = Unit {0}
Says (Buffer shape) pairs = Unit {0}
Says (Fork shape count) pairs = Unit {0}
Says (Join shapes) pairs = Unit {0}
Says (Split shapes) pairs = Unit {0}
Says (Operator op widths width) pairs = last_value (codes "op") pairs ≡ Some (graph_word op)
Says (Constant shape width value) pairs = SaysValue pairs value
Says (Source0 shape) pairs = Unit {0}
Says (Sink0 shape) pairs = Unit {0}
Says (Pure fun shape) pairs = SaysFunction pairs fun
Says (Mux shape) pairs = Unit {0}
Says (Branch shape) pairs = Unit {0}
Says (Merge shape count) pairs = Unit {0}
Says (CtrlMerge shape count width) pairs = Unit {0}
Says (Init value mark) pairs =
    (IsAbsent (codes "value") pairs value ⊎ SaysValue pairs value) × (IsAbsent (codes "ooo") pairs mark ⊎ SaysTags (codes "ooo") pairs mark)
Says (Tagger shape tags) pairs = SaysTags (codes "tags") pairs tags

-- ports that may be read: at most 64 of a side, with shapes
pub record AreRead (shapes : List Shape) : Type 0 where
  pub few : length shapes ≤ 64
  pub each : All IsShape shapes

-- the kind meets its row with these ports and attributes
pub record MeetsRow (component : Component) (inputs outputs : List Shape) (pairs : List Pair) (kind : Kind) : Type 0 where
  pub is : component ≡ component_at kind
  pub ok : KindOk kind
  pub ports : HasPorts kind inputs outputs
  pub says : Says kind pairs

-- a kind is read exactly where it meets its row
abbrev pub RowsAreMet : Type 0
RowsAreMet = (component : Component) (inputs outputs : List Shape) (pairs : List Pair) (kind : Kind) → AreRead inputs → AreRead outputs →
    (row_reading component inputs outputs pairs ≡ Ok kind) ↔ MeetsRow component inputs outputs pairs kind

-- a kind's own ports and attributes read as the kind
abbrev pub RowsReadBack : Type 0
RowsReadBack = (kind : Kind) (pairs : List Pair) → KindOk kind → Says kind pairs → row_reading (component_at kind) (ins kind) (outs kind) pairs ≡ Ok kind

-- a number below 2 ^ 64 that is written in decimal is a value
abbrev pub DecimalValues : Type 0
DecimalValues = (number : ℕ) → number < 2 ^ 64 → value_of (decimal number) ≡ Some number

-- a number below 2 ^ 64 that is written in hexadecimal behind `0x` is a value
abbrev pub HexadecimalValues : Type 0
HexadecimalValues = (number : ℕ) → number < 2 ^ 64 → value_of (codes "0x" ++ digits 16 false number) ≡ Some number

-- a number from 1 to 256 that is written in decimal is a number of tags
abbrev pub DecimalTags : Type 0
DecimalTags = (tags : ℕ) → 1 ≤ tags → tags ≤ 256 → tags_of (decimal tags) ≡ Some tags

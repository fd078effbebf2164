-- The nodes of a body: which components may stand in one, what a node does in a turn, and its weight.
use Rattle.std.specs.Prelude.{ℕ, List, [], map, length}
use Rattle.fun_expr.specs.Function.{fun_size}
use Rattle.components.specs.declared.kind.Kind.{Kind}
use Rattle.components.specs.declared.kind.Kind.TheVariants.{Entry, Exit, Buffer, Fork, Join, Split, Operator, Constant, Source0, Sink0, Pure, Mux, Branch, Merge, CtrlMerge, Init, Tagger}
use Rattle.components.specs.Kind.{KindOk}
use Rattle.circuits.specs.PortTokens.{Token, one}
use Rattle.circuits.specs.Firing.{Fires}

-- the components that may stand in a body
abbrev pub IsBodyKind : Kind → Type 0
IsBodyKind (Buffer shape) = Unit {0}
IsBodyKind (Fork shape count) = Unit {0}
IsBodyKind (Join shapes) = Unit {0}
IsBodyKind (Split shapes) = Unit {0}
IsBodyKind (Operator op widths width) = Unit {0}
IsBodyKind (Constant shape width value) = Unit {0}
IsBodyKind (Source0 shape) = Unit {0}
IsBodyKind (Sink0 shape) = Unit {0}
IsBodyKind (Pure fun shape) = Unit {0}
IsBodyKind (Entry shape) = ⊥
IsBodyKind (Exit shape) = ⊥
IsBodyKind (Mux shape) = ⊥
IsBodyKind (Branch shape) = ⊥
IsBodyKind (Merge shape count) = ⊥
IsBodyKind (CtrlMerge shape count width) = ⊥
IsBodyKind (Init value mark) = ⊥
IsBodyKind (Tagger shape tags) = ⊥

-- a component that may stand in a body and meets its row of the table
abbrev pub MayStand : Kind → Type 0
MayStand kind = IsBodyKind kind × KindOk kind

-- one firing by the table, which takes a token of each input and gives one at each output
abbrev pub FiresOnce : Kind → List Token → List Token → Type 0
FiresOnce kind taken given = Fires kind 0 [] (map one taken) (map one given) []

-- at least the number of expression nodes that it adds to the function of the body
abbrev pub weight : Kind → ℕ
weight (Operator op widths width) = 4
weight (Constant shape width value) = 1
weight (Source0 shape) = length shape
weight (Pure fun shape) = fun_size fun
weight (Buffer shape) = 0
weight (Fork shape count) = 0
weight (Join shapes) = 0
weight (Split shapes) = 0
weight (Sink0 shape) = 0
weight (Entry shape) = 0
weight (Exit shape) = 0
weight (Mux shape) = 0
weight (Branch shape) = 0
weight (Merge shape count) = 0
weight (CtrlMerge shape count width) = 0
weight (Init value mark) = 0
weight (Tagger shape tags) = 0

-- The table of components: the component of a kind, and its word.
use Rattle.std.specs.Prelude.{◌≡◌, ℕ, List, [], ◌∷◌, Option, Some, None, find, bytes_eq, codes, if◌then◌else◌}
use Rattle.std.specs.Option.{option_or}
use Rattle.components.specs.declared.kind.Kind.{Kind}
use Rattle.components.specs.declared.kind.Kind as kind
use Rattle.components.specs.declared.component.Component.{Component}
use Rattle.components.specs.declared.component.Component.TheVariants.{Entry, Exit, Buffer, Fork, Join, Split, Operator, Constant, Source, Sink, Pure, Mux, Branch, Merge, CtrlMerge, Init, Tagger}

-- the components, in the order of the table
abbrev pub components : List Component
components = Entry ∷ Exit ∷ Buffer ∷ Fork ∷ Join ∷ Split ∷ Operator ∷ Constant ∷ Source ∷ Sink ∷ Pure ∷ Mux ∷ Branch ∷ Merge ∷ CtrlMerge ∷ Init ∷ Tagger ∷ []

-- the component that a kind is of
abbrev pub component_at : Kind → Component
component_at (kind.TheVariants.Entry shape) = Entry
component_at (kind.TheVariants.Exit shape) = Exit
component_at (kind.TheVariants.Buffer shape) = Buffer
component_at (kind.TheVariants.Fork shape count) = Fork
component_at (kind.TheVariants.Join shapes) = Join
component_at (kind.TheVariants.Split shapes) = Split
component_at (kind.TheVariants.Operator op widths width) = Operator
component_at (kind.TheVariants.Constant shape width value) = Constant
component_at (kind.TheVariants.Source0 shape) = Source
component_at (kind.TheVariants.Sink0 shape) = Sink
component_at (kind.TheVariants.Pure fun shape) = Pure
component_at (kind.TheVariants.Mux shape) = Mux
component_at (kind.TheVariants.Branch shape) = Branch
component_at (kind.TheVariants.Merge shape count) = Merge
component_at (kind.TheVariants.CtrlMerge shape count width) = CtrlMerge
component_at (kind.TheVariants.Init value mark) = Init
component_at (kind.TheVariants.Tagger shape tags) = Tagger

-- the word of the table
abbrev pub word_of : Component → List ℕ
word_of Entry = codes "Entry"
word_of Exit = codes "Exit"
word_of Buffer = codes "Buffer"
word_of Fork = codes "Fork"
word_of Join = codes "Join"
word_of Split = codes "Split"
word_of Operator = codes "Operator"
word_of Constant = codes "Constant"
word_of Source = codes "Source"
word_of Sink = codes "Sink"
word_of Pure = codes "Pure"
word_of Mux = codes "Mux"
word_of Branch = codes "Branch"
word_of Merge = codes "Merge"
word_of CtrlMerge = codes "CntrlMerge"
word_of Init = codes "Init"
word_of Tagger = codes "Tagger"

-- `CtrlMerge` is a second spelling
abbrev pub second_spelling : List ℕ → Option Component
second_spelling word = if bytes_eq word (codes "CtrlMerge") then Some CtrlMerge else None

-- the component with this word
unfoldable pub component_of : List ℕ → Option Component
component_of word = option_or (find (λ component. bytes_eq (word_of component) word) components) (second_spelling word)

-- each component is found by its word
abbrev pub WordsReadBack : Type 0
WordsReadBack = (component : Component) → component_of (word_of component) ≡ Some component

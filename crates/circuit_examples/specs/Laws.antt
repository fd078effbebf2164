-- What the examples show and what they refuse to show.
use Rattle.std.specs.Prelude.{◌≡◌, ◌≢◌, ◌↔◌, ℕ, List, [], ◌∷◌, Option}
use Rattle.std.specs.List.{AllByRecursion}
use Rattle.port_types.specs.Shape.{IsShape}
use Rattle.port_types.specs.Token.{Fits}
use Rattle.components.specs.declared.kind.Kind.TheVariants.{Init, Tagger}
use Rattle.components.specs.Name.{Name, Port}
use Rattle.components.specs.Kind.{Shape, field, KindOk}
use Rattle.components.specs.NamedGraph.{IsTyped}
use Rattle.circuits.specs.PortTokens.{Token, single, one}
use Rattle.circuits.specs.Circuit.{circuit_of}
use Rattle.circuits.specs.CircuitState.{CircuitState}
use Rattle.circuits.specs.Run.{Shows}
use Rattle.circuits.specs.Refines.{Refines}
use Rattle.circuits.specs.Buffers.{first_port}
use Rattle.circuits.specs.Replacing.{IsPart}
use Rattle.circuits.specs.ReplacedGraph.{consumer, replaced_graph, Matches, IsRule}
use Rattle.circuits.specs.Drains.{IsRest, Drains}
use Rattle.circuit_examples.specs.Listed.{fed_at, taken_at}
use Rattle.circuit_examples.specs.LoneWire.{entry_name, exit_name, lone_wire}
use Rattle.circuit_examples.specs.LoneTagger.{fresh, work, back, results, lone_tagger}
use Rattle.circuit_examples.specs.LoneInit.{bits, out, lone_init}
use Rattle.circuit_examples.specs.BufferLeftOut.{row, short_row, old_part, new_part, taken_part}

-- a wire from an Entry to an Exit is typed
abbrev pub WireIsTyped : Type 0
WireIsTyped = (shape : Shape) → IsShape shape → IsTyped (lone_wire shape)

-- a token that is fed to it can be taken from it
abbrev pub WireShowsToken : Type 0
WireShowsToken = (shape : Shape) (v : Token) → Fits shape v →
    Shows (circuit_of (lone_wire shape)) (fed_at entry_name v ∷ taken_at exit_name v ∷ [])

-- and none can be taken before
abbrev pub WireShowsNoOther : Type 0
WireShowsNoOther = (shape : Shape) (v : Token) → ¬ (Shows (circuit_of (lone_wire shape)) (taken_at exit_name v ∷ []))

-- a wire from an Entry to an Exit drains fitting tokens to themselves, and to nothing else
abbrev pub WireDrains : Type 0
WireDrains = (shape : Shape) (ins outs : Name → List Token) →
    Drains (circuit_of (lone_wire shape)) ins outs ↔ (AllByRecursion (Fits shape) (ins entry_name) × (outs exit_name ≡ ins entry_name))

-- a Tagger with an Entry or an Exit at each port is typed
abbrev pub TaggerIsTyped : Type 0
TaggerIsTyped = (shape : Shape) (tags : ℕ) → KindOk (Tagger shape tags) → IsTyped (lone_tagger shape tags)

-- with two tags it gives the results in the order in which the tokens came, although the second result comes back first
abbrev pub TaggerShowsInOrder : Type 0
TaggerShowsInOrder = (shape : Shape) (v u a b : Token) → Fits shape v → Fits shape u → Fits shape a → Fits shape b →
    Shows (circuit_of (lone_tagger shape 2))
    (fed_at fresh v ∷ fed_at fresh u ∷ taken_at work (0 ∷ v) ∷ taken_at work (1 ∷ u) ∷
    fed_at back (1 ∷ b) ∷ fed_at back (0 ∷ a) ∷ taken_at results a ∷ taken_at results b ∷ [])

-- and where only the second result has come back it gives none, whatever its tags
abbrev pub TaggerShowsNoOther : Type 0
TaggerShowsNoOther = (shape : Shape) (tags : ℕ) (v u b y : Token) (first second : ℕ) →
    ¬ (Shows (circuit_of (lone_tagger shape tags))
    (fed_at fresh v ∷ fed_at fresh u ∷ taken_at work (first ∷ v) ∷ taken_at work (second ∷ u) ∷
    fed_at back (second ∷ b) ∷ taken_at results y ∷ []))

-- an Init between an Entry and a Buffer before an Exit is typed
abbrev pub InitIsTyped : Type 0
InitIsTyped = (value mark : ℕ) → KindOk (Init value mark) → IsTyped (lone_init value mark)

-- at rest the Init's value has passed the Buffer
abbrev pub InitRests : Type 0
InitRests = (value mark : ℕ) → (rest : CircuitState) × IsRest (circuit_of (lone_init value mark)) rest × (rest.wires (first_port out) ≡ one (single value))

-- it drains bits to the value followed by them, and to nothing else
abbrev pub InitDrains : Type 0
InitDrains = (value mark : ℕ) (ins outs : Name → List Token) → KindOk (Init value mark) →
    Drains (circuit_of (lone_init value mark)) ins outs ↔ (AllByRecursion (Fits (field 1)) (ins bits) × (outs out ≡ single value ∷ ins bits))

-- the rule that leaves the Buffer out is a rule
abbrev pub LeavingOutIsRule : Type 0
LeavingOutIsRule = (shape : Shape) → IsShape shape → IsRule (old_part shape) (new_part shape)

-- it matches a Buffer of the same name and shape
abbrev pub LeavingOutMatches : Type 0
LeavingOutMatches = (shape : Shape) → Matches (row shape) (old_part shape) (new_part shape)

-- so the old part is a part of that circuit
abbrev pub OldPartIsPart : Type 0
OldPartIsPart = (shape : Shape) → IsShape shape →
    IsPart (circuit_of (row shape)) (circuit_of (old_part shape)) (consumer (old_part shape))

-- and what comes of it is the Entry wired to the Exit
abbrev pub LeavingOutGives : Type 0
LeavingOutGives = (shape : Shape) → IsShape shape → replaced_graph (row shape) (old_part shape) (new_part shape) ≡ short_row shape

-- which refines what it was
abbrev pub LeavingOutRefines : Type 0
LeavingOutRefines = (shape : Shape) → IsShape shape → Refines (circuit_of (short_row shape)) (circuit_of (row shape))

-- a part whose Buffer has another shape is not found
abbrev pub OtherShapeRefused : Type 0
OtherShapeRefused = (shape other : Shape) → other ≢ shape → ¬ (Matches (row shape) (old_part other) (new_part other))

-- and is no part of the circuit
abbrev pub OtherShapeIsNoPart : Type 0
OtherShapeIsNoPart = (shape other : Shape) (target : Port → Option Port) → other ≢ shape →
    ¬ (IsPart (circuit_of (row shape)) (circuit_of (old_part other)) target)

-- a new part is refused where one of its inner nodes has the name of a node that stays
abbrev pub TakenNameRefused : Type 0
TakenNameRefused = (shape : Shape) → ¬ (Matches (row shape) (old_part shape) (taken_part shape))

-- The laws of circuits.
use Rattle.std.specs.Prelude.{◌≡◌, ◌≢◌, ◌↔◌, ℕ, drop, List, Option, Some, None, if◌then◌else◌}
use Rattle.std.specs.FinMap as map
use Rattle.components.specs.declared.kind.Kind.{Kind}
use Rattle.components.specs.declared.kind.Kind.TheVariants.{Buffer, Tagger}
use Rattle.components.specs.Name.{Name, Port}
use Rattle.components.specs.Kind.{Shape}
use Rattle.components.specs.NamedGraph.{NamedGraph, IsTyped, HasAllowedNames}
use Rattle.circuits.specs.PortTokens.{Token}
use Rattle.circuits.specs.Circuit.{Circuit, Typed, circuit_of}
use Rattle.circuits.specs.CircuitState.{CircuitState, start, IsStateOf}
use Rattle.circuits.specs.Firing.{Label, Label.Fire}
use Rattle.circuits.specs.Run.{Step, Move, Run, Shows}
use Rattle.circuits.specs.TaggerOrder.{tags_of, tags_given, results_given}
use Rattle.circuits.specs.Plug.{PlugLink, plug, Apart, CanPlug}
use Rattle.circuits.specs.PluggedGraph.{plugged_graph}
use Rattle.circuits.specs.Refines.{Refines}
use Rattle.circuits.specs.Buffers.{first_port, drop_node, drop_all, CanDropBuffer, CanDropEach, IsWithoutBuffer}
use Rattle.circuits.specs.Replacing.{replaced, IsPart, IsNew, Ends}
use Rattle.circuits.specs.ReplacedGraph.{consumer, has_inner, replaced_graph, Matches, IsRule}
use Rattle.circuits.specs.BufferRule.{straight, passing}
use Rattle.circuits.specs.Renaming.{Swap, renamed, KeepsEnds}
use Rattle.circuits.specs.Root.{Root}
use Rattle.circuits.specs.Drains.{IsInit, IsRest, Drains}

-- what a typed circuit holds at the start fits
abbrev pub StartIsState : Type 0
StartIsState = (c : Circuit) → Typed c → IsStateOf c (start c)

-- and it fits after each step
abbrev pub StepKeepsState : Type 0
StepKeepsState = (c : Circuit) → Typed c →
    (s : CircuitState) (n : Name) (l : Label) (t : CircuitState) → Step c s n l t → IsStateOf c s → IsStateOf c t

-- so what a run from the start reaches is a state of the circuit
abbrev pub RunReachesState : Type 0
RunReachesState = (c : Circuit) → Typed c → (ms : List Move) (t : CircuitState) → Run c (start c) ms t → IsStateOf c t

-- a firing, with its choice, leads to one state
abbrev pub FiringIsOne : Type 0
FiringIsOne = (c : Circuit) (s t u : CircuitState) (n : Name) (choice : ℕ) → IsStateOf c s → Step c s n (Fire choice) t → Step c s n (Fire choice) u → t ≡ u

-- after any run the tags in the slots of a Tagger are those that it gave out, in this order, without as many of the first as it gave results
abbrev pub TaggerKeepsOrder : Type 0
TaggerKeepsOrder = (c : Circuit) (n : Name) (shape : Shape) (tags : ℕ) → c.kind_at n ≡ Some (Tagger shape tags) →
    (ms : List Move) (t : CircuitState) → Run c (start c) ms t → tags_of (t.slots n) ≡ drop (results_given n ms) (tags_given n ms)

-- a typed circuit refines itself
abbrev pub RefinesItself : Type 0
RefinesItself = (c : Circuit) → Typed c → Refines c c

-- refinement goes on from step to step, whatever the names in between
abbrev pub RefinesInSteps : Type 0
RefinesInSteps = (new between old : Circuit) → Refines new between → Refines between old → Refines new old

-- what refines another shows, alone, nothing that the other does not
abbrev pub RefinesAlone : Type 0
RefinesAlone = (new old : Circuit) → Refines new old → (tr : List Move) → Shows new tr → Shows old tr

-- a plugged circuit is typed
abbrev pub PlugIsTyped : Type 0
PlugIsTyped = (c : Circuit) (ls : List PlugLink) (g : Circuit) → Typed c → Typed g → CanPlug c ls g →
    Typed (plug c ls g)

-- the circuit of a plugged graph is the plugged circuit: at each name and port both answer the same
abbrev pub PluggedGraphIsCircuit : Type 0
PluggedGraphIsCircuit = (c : NamedGraph) (ls : List PlugLink) (g : NamedGraph) →
    circuit_of (plugged_graph c ls g) ≡ plug (circuit_of c) ls (circuit_of g)

-- so a plugged graph is typed
abbrev pub PluggedGraphIsTyped : Type 0
PluggedGraphIsTyped = (c : NamedGraph) (ls : List PlugLink) (g : NamedGraph) → IsTyped c → IsTyped g →
    CanPlug (circuit_of c) ls (circuit_of g) → IsTyped (plugged_graph c ls g)

-- a circuit refined in a part is refined, where the names of the new part are apart from those of the rest
abbrev pub WholeRefines : Type 0
WholeRefines = (rest new old : Circuit) (ls : List PlugLink) → Typed rest → CanPlug rest ls old → Apart rest new →
    Refines new old → Refines (plug rest ls new) (plug rest ls old)

-- a circuit with a part replaced by what refines the part refines what it was, whatever stands around the part
abbrev pub ReplacementRefines : Type 0
ReplacementRefines = (g left right : Circuit) (target : Port → Option Port) (ends : List Name) →
    IsPart g left target → Ends left ends → IsNew g left right → Refines right left → Refines (replaced g left right target) g

-- in a typed graph an output feeds the input that is found for it
abbrev pub ConsumerIsFed : Type 0
ConsumerIsFed = (g : NamedGraph) → IsTyped g → (p q : Port) → (map.get g.feeders p ≡ Some q) ↔ (consumer g q ≡ Some p)

-- a replaced graph has the inner nodes of right, none of left, and the other nodes of the graph, with what they keep
abbrev pub ReplacedNodes : Type 0
ReplacedNodes = (g left right : NamedGraph) (n : Name) → map.get (replaced_graph g left right).nodes n ≡
    (if has_inner right n then map.get right.nodes n else (if has_inner left n then None else map.get g.nodes n))

-- and its circuit is the replaced circuit, at every name and every port
abbrev pub ReplacedGraphIsCircuit : Type 0
ReplacedGraphIsCircuit = (g left right : NamedGraph) →
    circuit_of (replaced_graph g left right) ≡ replaced (circuit_of g) (circuit_of left) (circuit_of right) (consumer left)

-- a typed graph in which a rule matches is typed once right is in the place of left
abbrev pub ReplacedGraphIsTyped : Type 0
ReplacedGraphIsTyped = (g left right : NamedGraph) → IsTyped g → IsRule left right → Matches g left right →
    IsTyped (replaced_graph g left right)

-- its names are allowed where those of the graph and of right are
abbrev pub ReplacedGraphHasNames : Type 0
ReplacedGraphHasNames = (g left right : NamedGraph) → HasAllowedNames g → HasAllowedNames right → HasAllowedNames (replaced_graph g left right)

-- and it refines the graph where right refines left
abbrev pub GraphReplacementRefines : Type 0
GraphReplacementRefines = (g left right : NamedGraph) → IsTyped g → IsRule left right → Matches g left right →
    Refines (circuit_of right) (circuit_of left) → Refines (circuit_of (replaced_graph g left right)) (circuit_of g)

-- the rule that puts an Entry wired to an Exit in the place of an Entry, a Buffer and an Exit in a row matches at each Buffer that can be left out; a Fork of one output is as a Buffer
abbrev pub BufferRuleMatches : Type 0
BufferRuleMatches = (g : NamedGraph) (entry b exit : Name) (shape : Shape) → entry ≢ b → exit ≢ b → IsTyped g → (can : CanDropBuffer (circuit_of g) b) →
    Matches g (passing entry b exit can.kind shape) (straight entry exit shape)

-- and what comes of it is the graph without the Buffer
abbrev pub DropIsReplacement : Type 0
DropIsReplacement = (h g : NamedGraph) (entry b exit : Name) (shape : Shape) → entry ≢ b → exit ≢ b → IsTyped g → (without : IsWithoutBuffer h g b) →
    h ≡ replaced_graph g (passing entry b exit without.can.kind shape) (straight entry exit shape)

-- a circuit shows nothing new where its inner nodes have other names
abbrev pub RenamedRefines : Type 0
RenamedRefines = (x : Swap) (c : Circuit) → Typed c → KeepsEnds x c → Refines (renamed x c) c

-- nor does it show less
abbrev pub RefinesRenamed : Type 0
RefinesRenamed = (x : Swap) (c : Circuit) → Typed c → KeepsEnds x c → Refines c (renamed x c)

-- what refines another circuit refines it where both have other names, and their Entries and Exits too
abbrev pub RenamingKeepsRefines : Type 0
RenamingKeepsRefines = (x : Swap) (new old : Circuit) → Refines new old → Refines (renamed x new) (renamed x old)

-- without a Buffer a circuit shows nothing new
abbrev pub DropRefines : Type 0
DropRefines = (c : Circuit) (b : Name) → Typed c → CanDropBuffer c b → Refines (drop_node b c) c

-- nor with it
abbrev pub PutRefines : Type 0
PutRefines = (c : Circuit) (b : Name) → Typed c → CanDropBuffer c b → Refines c (drop_node b c)

-- nor without several
abbrev pub DropAllRefines : Type 0
DropAllRefines = (c : Circuit) (bs : List Name) → Typed c → CanDropEach bs c → Refines (drop_all bs c) c

-- nor with them
abbrev pub PutAllRefines : Type 0
PutAllRefines = (c : Circuit) (bs : List Name) → Typed c → CanDropEach bs c → Refines c (drop_all bs c)

-- a typed graph stands for a typed circuit
abbrev pub CircuitIsTyped : Type 0
CircuitIsTyped = (g : NamedGraph) → IsTyped g → Typed (circuit_of g)

-- and only a typed one does
abbrev pub GraphIsTyped : Type 0
GraphIsTyped = (g : NamedGraph) → Typed (circuit_of g) → IsTyped g

-- without a Buffer a graph shows nothing new
abbrev pub GraphDropRefines : Type 0
GraphDropRefines = (h g : NamedGraph) (b : Name) → IsTyped g → IsWithoutBuffer h g b →
    Refines (circuit_of h) (circuit_of g)

-- nor with it
abbrev pub GraphPutRefines : Type 0
GraphPutRefines = (h g : NamedGraph) (b : Name) → IsTyped g → IsWithoutBuffer h g b →
    Refines (circuit_of g) (circuit_of h)

-- an input has at most one root
abbrev pub RootIsOne : Type 0
RootIsOne = (c : Circuit) (p q r : Port) → Root c p q → Root c p r → q ≡ r

-- and that of a Buffer that is wired to itself has none
abbrev pub RingHasNoRoot : Type 0
RingHasNoRoot = (c : Circuit) (b : Name) (shape : Shape) (q : Port) →
    c.kind_at b ≡ Some (Buffer shape) → c.feeder (first_port b) ≡ Some (first_port b) → ¬ (Root c (first_port b) q)

-- there is at most one rest state, whatever the order in which the led nodes fire
abbrev pub RestIsOne : Type 0
RestIsOne = (c : Circuit) (r s : CircuitState) → IsRest c r → IsRest c s → r ≡ s

-- a graph, which has finitely many nodes, has one
abbrev pub GraphRests : Type 0
GraphRests = (g : NamedGraph) → (rest : CircuitState) × IsRest (circuit_of g) rest

-- with no Init the start is at rest
abbrev pub RestsWithoutInit : Type 0
RestsWithoutInit = (c : Circuit) → ((n : Name) (k : Kind) → c.kind_at n ≡ Some k → ¬ (IsInit k)) → IsRest c (start c)

-- what a circuit drains it drains without a Buffer
abbrev pub DropDrains : Type 0
DropDrains = (c : Circuit) (b : Name) (ins outs : Name → List Token) → Typed c → CanDropBuffer c b →
    Drains c ins outs → Drains (drop_node b c) ins outs

-- what it drains without a Buffer it drains with it
abbrev pub PutDrains : Type 0
PutDrains = (c : Circuit) (b : Name) (ins outs : Name → List Token) → Typed c → CanDropBuffer c b →
    Drains (drop_node b c) ins outs → Drains c ins outs

-- what a graph drains it drains without a Buffer
abbrev pub GraphDropDrains : Type 0
GraphDropDrains = (h g : NamedGraph) (b : Name) (ins outs : Name → List Token) → IsTyped g → IsWithoutBuffer h g b →
    Drains (circuit_of g) ins outs → Drains (circuit_of h) ins outs

-- and what it drains without a Buffer it drains with it
abbrev pub GraphPutDrains : Type 0
GraphPutDrains = (h g : NamedGraph) (b : Name) (ins outs : Name → List Token) → IsTyped g → IsWithoutBuffer h g b →
    Drains (circuit_of h) ins outs → Drains (circuit_of g) ins outs

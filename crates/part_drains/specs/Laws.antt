-- Laws: when a circuit with a part replaced drains what it drained.
use Rattle.std.specs.Prelude.{Bool, List, Option}
use Rattle.std.specs.FinMap as map
use Rattle.components.specs.Name.{Name, Port}
use Rattle.components.specs.NamedGraph.{NamedGraph}
use Rattle.circuits.specs.Circuit.{Circuit, Typed, circuit_of}
use Rattle.circuits.specs.CircuitState.{CircuitState}
use Rattle.circuits.specs.PortTokens.{Token}
use Rattle.circuits.specs.Run.{Firing, Firings}
use Rattle.circuits.specs.Refines.{SamePorts}
use Rattle.circuits.specs.Replacing.{IsPart, IsNew, replaced}
use Rattle.part_drains.specs.Part.{HasNodes, PartOffCycle, FiresLast, HoldsRest, HasNoInit, KeepsDrains}
use Rattle.part_drains.specs.Passing.{Passes, IsIdle, with_inputs, with_outputs}
use Rattle.part_drains.specs.SingleNodes.{IsOneNode, IsPureAndSplit}

-- the keys of a graph by names list the nodes of its circuit
abbrev pub GraphListsNodes : Type 0
GraphListsNodes = (g : NamedGraph) → HasNodes (circuit_of g) (map.keys g.nodes)

-- where no walk outside a part leads from an output of it back to an input, and the nodes can be listed, it can be told which nodes may fire after the part
abbrev pub OffCycleFiresLast : Type 0
OffCycleFiresLast = (g part : Circuit) (nodes : List Name) → Typed g → HasNodes g nodes → PartOffCycle g part → (late : Name → Bool) × FiresLast g part late

-- a part off cycles, and one in its place that drains what it drains
abbrev pub ReplacementKeepsDrains : Type 0
ReplacementKeepsDrains = (g left right : Circuit) (target : Port → Option Port) (nodes : List Name) → IsPart g left target → IsNew g left right → Typed right →
    SamePorts right left → HoldsRest left → HoldsRest right → HasNodes g nodes → PartOffCycle g left → KeepsDrains left right → KeepsDrains g (replaced g left right target)

-- on cycles too: a node without slots, and a part in its place
abbrev pub NodeReplacementKeepsDrains : Type 0
NodeReplacementKeepsDrains = (g left right : Circuit) (target : Port → Option Port) (node : Name) → IsPart g left target → IsNew g left right → Typed right →
    SamePorts right left → HoldsRest left → HoldsRest right → HasNoInit left → HasNoInit right → IsOneNode left node → KeepsDrains left right → KeepsDrains g (replaced g left right target)

-- on cycles too: a Pure with the Split behind it, and a part in its place
abbrev pub PairReplacementKeepsDrains : Type 0
PairReplacementKeepsDrains = (g left right : Circuit) (target : Port → Option Port) (first second : Name) → IsPart g left target → IsNew g left right → Typed right →
    SamePorts right left → HoldsRest left → HoldsRest right → HasNoInit left → HasNoInit right → IsPureAndSplit left first second → KeepsDrains left right →
    KeepsDrains g (replaced g left right target)

-- a circuit with a part replaced has the Entries and Exits that it had
abbrev pub ReplacedHasPorts : Type 0
ReplacedHasPorts = (g left right : Circuit) (target : Port → Option Port) → IsPart g left target → IsNew g left right → SamePorts (replaced g left right target) g

-- what a part without an Init passes by itself it passes in any circuit that has it, in each state in which nothing stands inside it
abbrev pub PartPassesAnywhere : Type 0
PartPassesAnywhere = (g part : Circuit) (target : Port → Option Port) (ins outs : Name → List Token) (s : CircuitState) → IsPart g part target → HasNoInit part →
    Passes part ins outs → IsIdle part s → (firings : List Firing) × Firings g (with_inputs part ins s) firings (with_outputs g part target outs s)

-- What is proved of loops with lanes.
use Rattle.std.specs.Prelude.{Bool, List, Option}
use Rattle.fun_expr.specs.Function.{Function}
use Rattle.components.specs.Name.{Name, Port}
use Rattle.circuits.specs.PortTokens.{Token}
use Rattle.circuits.specs.Circuit.{Circuit, Typed}
use Rattle.circuits.specs.Drains.{Drains}
use Rattle.circuits.specs.Replacing.{IsPart, IsNew, replaced}
use Rattle.circuits.specs.Refines.{SamePorts}
use Rattle.part_drains.specs.Part.{HoldsRest, KeepsDrains, HasNodes, PartOffCycle}
use Rattle.loop_laws.specs.Polarity.{IsMark}
use Rattle.loop_laws.specs.OffCycle.{HasLoops, OffCycle}
use Rattle.loop_laws.specs.Loop.{Lane, Loop, LoopAt}
use Rattle.lane_drains.specs.LaneLoop.{LoopLane, IsLaneLoop, LoopsByTuples}
use Rattle.lane_drains.specs.LaneEnds.{HasLaneEnds}
use Rattle.lane_drains.specs.LoopCut.{lanes_with, CutsLoop, IsCutTo}
use Rattle.lane_drains.specs.TurnFunction.{ComputesTurns, LoopsByFunction}

-- what a loop with lanes drains are the columns of tuples and of what its turns make of each
abbrev pub DrainsAreLoops : Type 0
DrainsAreLoops = (c : Circuit) (goes_back : Bool) (mark : Name) (lanes : List LoopLane) (body : List Name) (condition : Port) → Typed c →
    IsLaneLoop c goes_back mark lanes body condition → (ins outs : Name → List Token) → Drains c ins outs →
    LoopsByTuples c goes_back lanes body condition ins outs

-- so it is what the loop of a function makes of each that computes the turns
abbrev pub DrainsAreFunctionLoops : Type 0
DrainsAreFunctionLoops = (fun : Function) (c : Circuit) (goes_back : Bool) (mark : Name) (lanes : List LoopLane) (body : List Name) (condition : Port) → Typed c →
    IsLaneLoop c goes_back mark lanes body condition → ComputesTurns fun c lanes body condition → (ins outs : Name → List Token) → Drains c ins outs →
    LoopsByFunction fun goes_back lanes ins outs

-- the loop at a mark, cut out of its graph, is a loop with lanes
abbrev pub CutLoopHasLanes : Type 0
CutLoopHasLanes = (g part : Circuit) (target : Port → Option Port) (m : Name) (l : Loop) (loop : LoopAt g m l) (entry exit : Lane → Name) → IsPart g part target →
    CutsLoop part m l entry exit → IsLaneLoop part l.goes_back m (lanes_with entry exit l) l.body loop.condition.condition

-- so what it drains are the columns of tuples and of what its turns make of each
abbrev pub CutLoopDrainsAreLoops : Type 0
CutLoopDrainsAreLoops = (g part : Circuit) (target : Port → Option Port) (m : Name) (l : Loop) (loop : LoopAt g m l) (entry exit : Lane → Name) → IsPart g part target →
    CutsLoop part m l entry exit → (ins outs : Name → List Token) → Drains part ins outs →
    LoopsByTuples part l.goes_back (lanes_with entry exit l) l.body loop.condition.condition ins outs

-- tokens at rest run through no loop with lanes
abbrev pub LaneLoopHoldsRest : Type 0
LaneLoopHoldsRest = (c : Circuit) (goes_back : Bool) (mark : Name) (lanes : List LoopLane) (body : List Name) (condition : Port) → Typed c →
    IsLaneLoop c goes_back mark lanes body condition → HasLaneEnds c lanes → HoldsRest c

-- a part with the ends of a loop with lanes, in the place of one off cycles, where it drains all that the loop of a function of its turns makes
abbrev pub LoopReplacedKeepsDrains : Type 0
LoopReplacedKeepsDrains = (g left right : Circuit) (target : Port → Option Port) (nodes : List Name) → IsPart g left target → IsNew g left right → Typed right →
    SamePorts right left → HoldsRest right → HasNodes g nodes → PartOffCycle g left →
    (fun : Function) (goes_back : Bool) (mark : Name) (lanes : List LoopLane) (body : List Name) (condition : Port) →
    IsLaneLoop left goes_back mark lanes body condition → HasLaneEnds left lanes → ComputesTurns fun left lanes body condition →
    ((ins outs : Name → List Token) → LoopsByFunction fun goes_back lanes ins outs → Drains right ins outs) →
    KeepsDrains g (replaced g left right target)

-- a part that has the nodes of the loop at a mark lies off cycles where the loop does
abbrev pub CutLoopOffCycle : Type 0
CutLoopOffCycle = (g part : Circuit) (loops : Name → Loop) (m : Name) → HasLoops g loops → IsMark g m → OffCycle g loops m → IsCutTo part m (loops m) →
    PartOffCycle g part

-- so of a mark: a part with the ends of its loop, in the place of the loop off cycle, where it drains all that the loop of a function of its turns makes
abbrev pub MarkedLoopReplacedKeepsDrains : Type 0
MarkedLoopReplacedKeepsDrains = (g part right : Circuit) (target : Port → Option Port) (nodes : List Name) (loops : Name → Loop) (m : Name) (entry exit : Lane → Name) →
    (has : HasLoops g loops) (mark : IsMark g m) → OffCycle g loops m → IsPart g part target → CutsLoop part m (loops m) entry exit → IsCutTo part m (loops m) →
    HasLaneEnds part (lanes_with entry exit (loops m)) → IsNew g part right → Typed right → SamePorts right part → HoldsRest right → HasNodes g nodes →
    (fun : Function) → ComputesTurns fun part (lanes_with entry exit (loops m)) (loops m).body (has.all m mark).condition.condition →
    ((ins outs : Name → List Token) → LoopsByFunction fun (loops m).goes_back (lanes_with entry exit (loops m)) ins outs → Drains right ins outs) →
    KeepsDrains g (replaced g part right target)

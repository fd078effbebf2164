-- The laws of graphs in which one marked loop after another is tagged, or gathered.
use Rattle.std.specs.Prelude.{◌≢◌, ◌↔◌, ◌≤◌, length, List}
use Rattle.fun_expr.specs.Function.{Function}
use Rattle.components.specs.Name.{Name}
use Rattle.circuits.specs.Circuit.{Circuit}
use Rattle.circuits.specs.Replacing.{In, NoneTwice}
use Rattle.loop_laws.specs.Polarity.{IsMark}
use Rattle.loop_laws.specs.Loop.{Loop}
use Rattle.loop_laws.specs.OffCycle.{HasLoops, OffCycle, AllOffCycle}
use Rattle.tagged_loop.specs.LoopFunction.{IsLoopFunction}
use Rattle.loop_turns.specs.Rebuilt.{NewNames}
use Rattle.loop_turns.specs.Lanes.{tuple_shape, with_loop}
use Rattle.loop_turns.specs.Tagged.{TagNode, tag_nodes, tagged_graph}
use Rattle.loop_turns.specs.Gathered.{GatherNode, gather_nodes, gathered_graph, gathered_loop}
use Rattle.loop_turns.specs.NewNames.{IsFreshPrefix, tag_name, gather_name, TaggedAll, GatheredAll, Gathering, marks_of, CanGatherAll, LoopsAfter}

-- a fresh prefix gives the new nodes names that differ from each other and from all others
abbrev pub PrefixNamesTagged : Type 0
PrefixNamesTagged = (g : Circuit) (l : Loop) (prefix : Name) → length l.lanes ≤ 62 → IsFreshPrefix g prefix → NewNames g (tag_nodes l) (tag_name prefix)

abbrev pub PrefixNamesGathered : Type 0
PrefixNamesGathered = (g : Circuit) (prefix : Name) → IsFreshPrefix g prefix → NewNames g gather_nodes (gather_name prefix)

-- the turn of a mark whose loop is tagged
pub record CanTagLoop (g : Circuit) (loops : Name → Loop) (m : Name) (name : TagNode → Name) : Type 0 where
  pub has : HasLoops g loops
  pub mark : IsMark g m
  pub names : NewNames g (tag_nodes (loops m)) name

-- the graph is typed, and the other marks have the loops that they had
abbrev pub TaggingLeavesLoops : Type 0
TaggingLeavesLoops = (g : Circuit) (loops : Name → Loop) (m : Name) (name : TagNode → Name) → CanTagLoop g loops m name → HasLoops (tagged_graph g m (loops m) name) loops

-- its marks are the other marks
abbrev pub TaggingLeavesMarks : Type 0
TaggingLeavesMarks = (g : Circuit) (loops : Name → Loop) (m : Name) (name : TagNode → Name) → CanTagLoop g loops m name →
    (n : Name) → IsMark (tagged_graph g m (loops m) name) n ↔ ((n ≢ m) × IsMark g n)

-- and they are off cycle where they were
abbrev pub TaggingLeavesOffCycle : Type 0
TaggingLeavesOffCycle = (g : Circuit) (loops : Name → Loop) (m : Name) (name : TagNode → Name) → CanTagLoop g loops m name →
    (n : Name) → n ≢ m → IsMark g n → OffCycle g loops n → OffCycle (tagged_graph g m (loops m) name) loops n

-- marks tagged one after the other, each once: the others have the loops that they had in the first graph, off cycle where they were
pub record CanTagAll (g h : Circuit) (loops : Name → Loop) (marks : List Name) : Type 0 where
  pub has : HasLoops g loops
  pub once : NoneTwice marks
  pub are : (m : Name) → In m marks → IsMark g m
  pub turns : TaggedAll g loops marks h

abbrev pub TaggedAllHasLoops : Type 0
TaggedAllHasLoops = (g h : Circuit) (loops : Name → Loop) (marks : List Name) → CanTagAll g h loops marks → HasLoops h loops

abbrev pub TaggedAllHasMarks : Type 0
TaggedAllHasMarks = (g h : Circuit) (loops : Name → Loop) (marks : List Name) → CanTagAll g h loops marks →
    (n : Name) → IsMark h n ↔ (¬ (In n marks) × IsMark g n)

abbrev pub TaggedAllOffCycle : Type 0
TaggedAllOffCycle = (g h : Circuit) (loops : Name → Loop) (marks : List Name) → CanTagAll g h loops marks → AllOffCycle g loops → AllOffCycle h loops

-- the turn of a mark whose loop is gathered
pub record CanGatherLoop (g : Circuit) (loops : Name → Loop) (m : Name) (fun : Function) (name : GatherNode → Name) : Type 0 where
  pub has : HasLoops g loops
  pub mark : IsMark g m
  pub function : IsLoopFunction (tuple_shape (loops m)) fun
  pub names : NewNames g gather_nodes name

-- the graph is typed, the mark has the gathered loop, of one lane, and the others have the loops that they had
abbrev pub GatheringLeavesLoops : Type 0
GatheringLeavesLoops = (g : Circuit) (loops : Name → Loop) (m : Name) (fun : Function) (name : GatherNode → Name) → CanGatherLoop g loops m fun name →
    HasLoops (gathered_graph g m (loops m) fun name) (with_loop loops m (gathered_loop (loops m) name))

abbrev pub GatheringLeavesMarks : Type 0
GatheringLeavesMarks = (g : Circuit) (loops : Name → Loop) (m : Name) (fun : Function) (name : GatherNode → Name) → CanGatherLoop g loops m fun name →
    (n : Name) → IsMark (gathered_graph g m (loops m) fun name) n ↔ IsMark g n

abbrev pub GatheringLeavesOffCycle : Type 0
GatheringLeavesOffCycle = (g : Circuit) (loops : Name → Loop) (m : Name) (fun : Function) (name : GatherNode → Name) → CanGatherLoop g loops m fun name →
    (n : Name) → IsMark g n → OffCycle g loops n → OffCycle (gathered_graph g m (loops m) fun name) (with_loop loops m (gathered_loop (loops m) name)) n

-- marks gathered one after the other, each once
abbrev pub GatheredAllHasLoops : Type 0
GatheredAllHasLoops = (g h : Circuit) (loops : Name → Loop) (turns : List Gathering) → HasLoops g loops → NoneTwice (marks_of turns) →
    CanGatherAll g loops turns → GatheredAll g loops turns h → LoopsAfter g h loops (marks_of turns)

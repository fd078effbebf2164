-- The loop at a mark, cut out of its graph.
use Rattle.std.specs.Prelude.{◌≡◌, ◌↔◌, List, map, true, Some}
use Rattle.components.specs.declared.kind.Kind.TheVariants.{Entry, Exit}
use Rattle.components.specs.Name.{Name}
use Rattle.circuits.specs.Circuit.{Circuit}
use Rattle.circuits.specs.Buffers.{first_port}
use Rattle.circuits.specs.Replacing.{In}
use Rattle.loop_laws.specs.Polarity.{fresh_in, exit_out}
use Rattle.loop_laws.specs.Reached.{port_at}
use Rattle.loop_laws.specs.Loop.{Lane, Loop, NodeOf}
use Rattle.part_drains.specs.Part.{inside}
use Rattle.lane_drains.specs.LaneLoop.{LoopLane}

-- a lane with the names of its ends
abbrev pub lane_with : (Lane → Name) → (Lane → Name) → Lane → LoopLane
lane_with entry exit x = record { mux = x.mux; branch = x.branch; entry = entry x; exit = exit x; shape = x.shape }

abbrev pub lanes_with : (Lane → Name) → (Lane → Name) → Loop → List LoopLane
lanes_with entry exit l = map (lane_with entry exit) l.lanes

-- the part has the loop's nodes, an Entry at each lane's fresh input and an Exit at each exit output of a Branch
pub record CutsLoop (part : Circuit) (m : Name) (l : Loop) (entry exit : Lane → Name) : Type 0 where
  pub nodes : (n : Name) → NodeOf m l n → inside part n ≡ true
  pub entries : (x : Lane) → In x l.lanes → part.kind_at (entry x) ≡ Some (Entry x.shape)
  pub exits : (x : Lane) → In x l.lanes → part.kind_at (exit x) ≡ Some (Exit x.shape)
  pub fresh : (x : Lane) → In x l.lanes → part.feeder (port_at x.mux (fresh_in l.goes_back)) ≡ Some (first_port (entry x))
  pub results : (x : Lane) → In x l.lanes → part.feeder (first_port (exit x)) ≡ Some (port_at x.branch (exit_out l.goes_back))

-- the nodes of the part, but for its ends, are those of the loop at m
abbrev pub IsCutTo : Circuit → Name → Loop → Type 0
IsCutTo part m l = (n : Name) → (inside part n ≡ true) ↔ NodeOf m l n

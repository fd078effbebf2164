-- The laws of loops and of faults.
use Rattle.std.specs.Prelude.{◌≡◌, ◌≢◌}
use Rattle.components.specs.Name.{Name}
use Rattle.circuits.specs.Circuit.{Circuit, Typed}
use Rattle.loop_laws.specs.declared.fault.LoopFaultKind.{LoopFaultKind}
use Rattle.loop_laws.specs.Loop.{Loop, LoopAt, NodeOf}
use Rattle.loop_laws.specs.Faults.{Row, Fault}

-- a mark has at most one loop
abbrev pub LoopIsOne : Type 0
LoopIsOne = (c : Circuit) (m : Name) (l k : Loop) → LoopAt c m l → LoopAt c m k → l ≡ k

-- loops of different marks share no node
abbrev pub LoopsShareNone : Type 0
LoopsShareNone = (c : Circuit) (m n : Name) (l k : Loop) → Typed c → LoopAt c m l → LoopAt c n k → m ≢ n →
    (x : Name) → NodeOf m l x → ¬ (NodeOf n k x)

-- where a mark has a loop no row of the table holds
abbrev pub LoopHasNoRow : Type 0
LoopHasNoRow = (c : Circuit) (m : Name) (l : Loop) (kind : LoopFaultKind) (node : Name) → Typed c → LoopAt c m l → ¬ (Row c m l.goes_back kind node)

-- so a mark has a loop or a fault, and not both
abbrev pub LoopHasNoFault : Type 0
LoopHasNoFault = (c : Circuit) (m : Name) (l : Loop) (kind : LoopFaultKind) (node : Name) → Typed c → LoopAt c m l → ¬ (Fault c m kind node)

-- a mark has at most one fault, at one node
abbrev pub FaultIsOne : Type 0
FaultIsOne = (c : Circuit) (m : Name) (kind other_kind : LoopFaultKind) (node other_node : Name) →
    Fault c m kind node → Fault c m other_kind other_node → (kind ≡ other_kind) × (node ≡ other_node)

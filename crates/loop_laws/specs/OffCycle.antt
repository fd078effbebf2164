-- Loops that no walk leads from their exits back to their fresh inputs.
use Rattle.std.specs.Prelude.{◌≡◌, Some}
use Rattle.components.specs.Name.{Name, Port}
use Rattle.circuits.specs.Circuit.{Circuit, Typed}
use Rattle.loop_laws.specs.Polarity.{IsMark}
use Rattle.loop_laws.specs.Loop.{Loop, LoopAt, NodeOf, IsFresh, IsExit}

-- each mark has its loop
abbrev pub AllLoops : Circuit → (Name → Loop) → Type 0
AllLoops c loops = (m : Name) → IsMark c m → LoopAt c m (loops m)

-- n is a node of a marked loop
abbrev pub InLoop : Circuit → (Name → Loop) → Name → Type 0
InLoop c loops n = (m : Name) × IsMark c m × NodeOf m (loops m) n

-- a walk that came by the wire into p goes on by the wire into r: out of a marked loop by any of its exits, out of another node by any output
pub data GoesOnBy (c : Circuit) (loops : Name → Loop) (p r : Port) : Type 0 where
  out_of_loop : (m : Name) (q : Port) → IsMark c m → NodeOf m (loops m) p.node → IsExit (loops m) q → c.feeder r ≡ Some q → GoesOnBy c loops p r
  out_of_node : (q : Port) → ¬ (InLoop c loops p.node) → q.node ≡ p.node → c.feeder r ≡ Some q → GoesOnBy c loops p r

-- a walk from the wire into p to the wire into r. No wire behind its first is one between nodes of a loop, since it leaves a loop by an exit alone
pub data Walk (c : Circuit) (loops : Name → Loop) (p : Port) : Port → Type 0 where
  here : {r : Port} → p ≡ r → Walk c loops p r
  on : {r : Port} (s : Port) → Walk c loops p s → GoesOnBy c loops s r → Walk c loops p r

-- no walk from an exit of the loop at m ends at a fresh input of it
abbrev pub OffCycle : Circuit → (Name → Loop) → Name → Type 0
OffCycle c loops m = (p q r : Port) → c.feeder p ≡ Some q → IsExit (loops m) q → Walk c loops p r → ¬ (IsFresh (loops m) r)

abbrev pub AllOffCycle : Circuit → (Name → Loop) → Type 0
AllOffCycle c loops = (m : Name) → IsMark c m → OffCycle c loops m

-- a typed circuit in which each mark has its loop
pub record HasLoops (c : Circuit) (loops : Name → Loop) : Type 0 where
  pub typed : Typed c
  pub all : AllLoops c loops

-- Loops on cycles.
use Rattle.std.specs.Prelude.{◌≡◌, ◌⊎◌, ◌↔◌, ℕ, ◌≤◌, List, map, Bool, true, Some, length, slice_get}
use Rattle.components.specs.Name.{Name, Port}
use Rattle.circuits.specs.Circuit.{Circuit, circuit_of}
use Rattle.loop_laws.specs.Polarity.{IsMark}
use Rattle.loop_laws.specs.Loop.{Loop, LoopAt, IsFresh, IsExit}
use Rattle.loop_laws.specs.OffCycle.{AllLoops, InLoop, Walk}
use Rattle.graph_core.specs.GraphValue.{GraphValue, name_by}
use Rattle.graph_core.specs.Place.{index_of}
use Rattle.loop_find.specs.declared.shape.LoopShape.{LoopShape}
use Rattle.loop_find.specs.Marks.{AreMarks}
use Rattle.loop_find.specs.Shapes.{loop_by}

-- a walk from an exit of the loop at m ends at a fresh input of it
pub record IsOnCycle (c : Circuit) (loops : Name → Loop) (m : Name) : Type 0 where
  pub first : Port
  pub exit : Port
  pub last : Port
  pub fed : c.feeder first ≡ Some exit
  pub leaves : IsExit (loops m) exit
  pub walk : Walk c loops first last
  pub comes_back : IsFresh (loops m) last

-- a walk may go by a wire from this output: an exit of a loop, or an output of a node that is in none
abbrev pub Leaves : Circuit → (Name → Loop) → Port → Type 0
Leaves c loops q = ((m : Name) × IsMark c m × IsExit (loops m) q) ⊎ ¬ (InLoop c loops q.node)

-- the loops of all marks, by name
pub record AreLoops (g : GraphValue) (shapes : List LoopShape) : Type 0 where
  pub marks : AreMarks g (map (λ (s : LoopShape). s.mark) shapes)
  pub bits : (k : ℕ) (s : LoopShape) → slice_get shapes k ≡ Some s → s.back_bit ≤ 1
  pub each : (k : ℕ) (s : LoopShape) → slice_get shapes k ≡ Some s → LoopAt (circuit_of g.graph) (name_by g.ids s.mark) (loop_by g s)

-- for each of these loops whether it lies on a cycle
pub record TellsOnCycle (g : GraphValue) (shapes : List LoopShape) (told : List Bool) : Type 0 where
  pub size : length told ≡ length shapes
  pub exact : (loops : Name → Loop) → AllLoops (circuit_of g.graph) loops → (k : ℕ) (s : LoopShape) → slice_get shapes k ≡ Some s →
      (slice_get told k ≡ Some true) ↔ IsOnCycle (circuit_of g.graph) loops (name_by g.ids s.mark)

-- for each of these loops what is told under the index of its mark
abbrev pub AreToldOf : List Bool → List LoopShape → List Bool → Type 0
AreToldOf on shapes told = (length told ≡ length shapes) × ((k : ℕ) (s : LoopShape) → slice_get shapes k ≡ Some s → slice_get told k ≡ slice_get on (index_of s.mark))

-- Ports of Entries and Exits, and how many inputs a node has.
use Rattle.std.specs.Prelude.{◌≡◌, ℕ, length, Option, Some, None}
use Rattle.components.specs.declared.kind.Kind.{Kind}
use Rattle.components.specs.declared.kind.Kind.TheVariants.{Entry, Exit}
use Rattle.components.specs.Kind.{Shape, ins, outs}
use Rattle.components.specs.Name.{Port, port_get}
use Rattle.components.specs.NamedGraph.{NamedGraph}
use Rattle.circuits.specs.Circuit.{circuit_of}

-- the output of an Entry
pub record IsEntryPort (g : NamedGraph) (q : Port) : Type 0 where
  pub shape : Shape
  pub kind : (circuit_of g).kind_at q.node ≡ Some (Entry shape)
  pub there : port_get (outs (Entry shape)) q.port ≡ Some shape

-- the input of an Exit
pub record IsExitPort (g : NamedGraph) (p : Port) : Type 0 where
  pub shape : Shape
  pub kind : (circuit_of g).kind_at p.node ≡ Some (Exit shape)
  pub there : port_get (ins (Exit shape)) p.port ≡ Some shape

-- no node has none
abbrev pub count_inputs : Option Kind → ℕ
count_inputs None = 0
count_inputs (Some kind) = length (ins kind)

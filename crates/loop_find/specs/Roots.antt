-- The root of an input, and the Buffers and Forks that have an output as their root.
use Rattle.std.specs.Prelude.{◌≡◌, ℕ, Option, MatchOption, Some}
use Rattle.components.specs.Name.{Name, Port}
use Rattle.circuits.specs.Circuit.{Circuit, circuit_of}
use Rattle.circuits.specs.Buffers.{first_port}
use Rattle.circuits.specs.Root.{PassesThrough, Root}
use Rattle.loop_laws.specs.Reached.{port_at, HasKind}
use Rattle.graph_core.specs.declared.place.PortAt.{PortAt}
use Rattle.graph_core.specs.GraphValue.{GraphValue, Denotes, name_by, port_of}

-- the output is the root of the input
pub record IsRootAt (g : GraphValue) (target source : PortAt) : Type 0 where
  pub root : Root (circuit_of g.graph) (port_of g target) (port_of g source)
  pub ends : ¬ (HasKind (circuit_of g.graph) PassesThrough (name_by g.ids source.node))
  pub denotes : Denotes g source.node (name_by g.ids source.node)

-- the root of the input, and none where it has none
abbrev pub IsRootOf : GraphValue → PortAt → Option PortAt → Type 0
IsRootOf g target answer = MatchOption answer ((q : Port) → ¬ (Root (circuit_of g.graph) (port_of g target) q)) (IsRootAt g target)

-- a Buffer or a Fork that this output feeds
abbrev pub IsBehind : Circuit → Port → Name → Type 0
IsBehind c source n = HasKind c PassesThrough n × (i : ℕ) × (c.feeder (port_at n i) ≡ Some source)

-- a Buffer or a Fork whose input has this root
abbrev pub IsRooted : Circuit → Port → Name → Type 0
IsRooted c root n = HasKind c PassesThrough n × Root c (first_port n) root

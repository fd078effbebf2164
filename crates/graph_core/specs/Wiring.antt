-- What keeps a wire out, and which ports are open.
use Rattle.std.specs.Prelude.{◌≡◌, ◌≢◌, ◌⊎◌, Some}
use Rattle.std.specs.FinMap as finite
use Rattle.port_types.specs.declared.side.Side.{Side}
use Rattle.port_types.specs.declared.side.Side.TheVariants.{Ins, Outs}
use Rattle.graph_core.specs.declared.graph.AddWire.{AddWire}
use Rattle.graph_core.specs.declared.graph.AddWire.TheVariants.{UnknownPort, PortTaken, ShapeDiffers, NoMemory}
use Rattle.components.specs.Name.{Port, port_get}
use Rattle.components.specs.Kind.{Shape, ports}
use Rattle.components.specs.Node.{Body}
use Rattle.components.specs.NamedGraph.{NamedGraph, CanWire}

-- the port is one of a node of the graph, with this shape
abbrev pub HasShape : NamedGraph → Side → Port → Shape → Type 0
HasShape g side p shape = (body : Body) × (finite.get g.nodes p.node ≡ Some body) × (port_get (ports body.kind side) p.port ≡ Some shape)

-- the port is one of a node of the graph
abbrev pub HasPort : NamedGraph → Side → Port → Type 0
HasPort g side p = (shape : Shape) × HasShape g side p shape

-- the port stands on a wire
abbrev pub IsWired : NamedGraph → Side → Port → Type 0
IsWired g Ins p = (source : Port) × (finite.get g.feeders p ≡ Some source)
IsWired g Outs p = (target : Port) × (finite.get g.feeders target ≡ Some p)

-- both ports of a wire from output source to input target are there
pub record AreThere (g : NamedGraph) (source target : Port) : Type 0 where
  pub leaving : Shape
  pub entering : Shape
  pub output : HasShape g Outs source leaving
  pub input : HasShape g Ins target entering

-- why no wire from output source to input target is added: a port is not there; a port stands on a wire; the shapes differ; want of memory for one that could be
abbrev pub Refuses : NamedGraph → Port → Port → AddWire → Type 0
Refuses g source target UnknownPort = ¬ (AreThere g source target)
Refuses g source target PortTaken = AreThere g source target × (IsWired g Ins target ⊎ IsWired g Outs source)
Refuses g source target ShapeDiffers = (there : AreThere g source target) × (there.leaving ≢ there.entering) × ¬ (IsWired g Ins target) × ¬ (IsWired g Outs source)
Refuses g source target NoMemory = CanWire g source target

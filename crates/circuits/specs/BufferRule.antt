-- The rule that leaves a Buffer out, or a Fork of one output: an Entry, this node and an Exit in a row become the Entry and the Exit.
use Rattle.std.specs.FinMap as map
use Rattle.components.specs.declared.kind.Kind.{Kind}
use Rattle.components.specs.declared.kind.Kind.TheVariants.{Entry, Exit, Buffer}
use Rattle.components.specs.Name.{Name}
use Rattle.components.specs.Kind.{Shape}
use Rattle.components.specs.Node.{Body}
use Rattle.components.specs.NamedGraph.{NamedGraph, no_graph, with_node, with_wire}
use Rattle.circuits.specs.Buffers.{first_port}

-- a node with no kept attributes
abbrev pub bare : Kind → Body
bare kind = record { kind = kind; kept = map.empty }

-- an Entry that is wired to an Exit
abbrev pub straight : Name → Name → Shape → NamedGraph
straight entry exit shape =
    with_wire (with_node (with_node no_graph exit (bare (Exit shape))) entry (bare (Entry shape))) (first_port entry) (first_port exit)

-- an Entry that is wired to a node of this kind, and that to an Exit
abbrev pub passing : Name → Name → Name → Kind → Shape → NamedGraph
passing entry b exit kind shape =
    with_wire (with_wire
    (with_node (with_node (with_node no_graph exit (bare (Exit shape))) b (bare kind)) entry (bare (Entry shape)))
    (first_port b) (first_port exit)) (first_port entry) (first_port b)

-- an Entry that is wired to a Buffer, and that to an Exit
abbrev pub buffered : Name → Name → Name → Shape → NamedGraph
buffered entry b exit shape = passing entry b exit (Buffer shape) shape

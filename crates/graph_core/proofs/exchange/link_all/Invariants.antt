use Rattle.std.proofs.Common.{drop}
use Rattle.graph_core.specs.GraphValue.{port_of}
use Rattle.graph_core.specs.Inside.{IsArena, value_of}
use Rattle.graph_core.specs.Names.{IdsByName}
use Rattle.graph_core.specs.Steps.{Fits, place_of}
use Rattle.graph_core.proofs.Exchanging.{SoWired}
use Rattle.graph_core.proofs.exchange.link_all.Given as goal

abbrev pub invariant-loop-wire : goal.invariant-loop-wire
invariant-loop-wire l =
    (table : IdsByName) → IsArena l.initial.cells table → Fits (λ end. port_of (value_of l.initial.cells table) (place_of l.ids end)) (value_of l.initial.cells table).graph l.wires
    → IsArena l.cells table
    × SoWired (λ end. port_of (value_of l.initial.cells table) (place_of l.ids end)) (value_of l.initial.cells table) l.wires (value_of l.cells table) (drop l.wire-index l.wires)

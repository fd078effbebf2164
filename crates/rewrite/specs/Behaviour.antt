-- What the stripped graph does, as a circuit.
use Rattle.std.specs.Prelude.{List}
use Rattle.components.specs.Name.{Name}
use Rattle.components.specs.NamedGraph.{NamedGraph, IsTyped}
use Rattle.circuits.specs.Circuit.{circuit_of}
use Rattle.circuits.specs.PortTokens.{Token}
use Rattle.circuits.specs.Refines.{Refines}
use Rattle.circuits.specs.Drains.{Drains}
use Rattle.rewrite.specs.Stripped.{IsStripped}

-- the stripped graph of a typed graph is typed
abbrev pub StrippedTyped : Type 0
StrippedTyped = (g h : NamedGraph) → IsTyped g → IsStripped g h → IsTyped h

-- and in no surrounding circuit shows anything that the graph does not
abbrev pub StrippedRefines : Type 0
StrippedRefines = (g h : NamedGraph) → IsTyped g → IsStripped g h → Refines (circuit_of h) (circuit_of g)

-- nor the graph anything that the stripped graph does not
abbrev pub StrippedIsRefined : Type 0
StrippedIsRefined = (g h : NamedGraph) → IsTyped g → IsStripped g h → Refines (circuit_of g) (circuit_of h)

-- what graph g drains, by itself, graph h drains to the same outputs
abbrev pub KeepsDrains : NamedGraph → NamedGraph → Type 0
KeepsDrains h g = (ins outs : Name → List Token) → Drains (circuit_of g) ins outs → Drains (circuit_of h) ins outs

-- and what the graph drains the stripped graph drains
abbrev pub StrippedDrains : Type 0
StrippedDrains = (g h : NamedGraph) → IsTyped g → IsStripped g h → KeepsDrains h g

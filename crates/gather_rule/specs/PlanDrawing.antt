-- The drawing of a plan: a wire into each input, node by node.
use Rattle.std.specs.Prelude.{ℕ, suc, List, [], ◌∷◌, ◌++◌, Option, Some, None}
use Rattle.components.specs.Kind.{Shape, ins}
use Rattle.circuit_plans.specs.Plans.{Out, Plan}
use Rattle.circuit_plans.specs.Drawing.{DrawnWire, Drawing}

-- the wire into an input, where it has a source, and others
abbrev pub wire_from : {N : Type 0} → Option (Out N) → N → ℕ → List (DrawnWire N) → List (DrawnWire N)
wire_from None n i rest = rest
wire_from (Some q) n i rest = record { source = q; target = record { at = n; port = i } } ∷ rest

-- the wires into the inputs of a node, from a port on
abbrev pub wires_into : {N : Type 0} → Plan N → N → ℕ → List Shape → List (DrawnWire N)
wires_into c n i [] = []
wires_into c n i (a ∷ shapes) = wire_from (c.source n i) n i (wires_into c n (suc i) shapes)

abbrev pub all_wires : {N : Type 0} → Plan N → List N → List (DrawnWire N)
all_wires c [] = []
all_wires c (n ∷ ns) = wires_into c n 1 (ins (c.kind n)) ++ all_wires c ns

-- these nodes, with the wires into them
abbrev pub drawing_of : {N : Type 0} → Plan N → List N → Drawing N
drawing_of c nodes = record { kind = c.kind; nodes = nodes; wires = all_wires c nodes }

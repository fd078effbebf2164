-- Wires that come in rows, one for each lane.
use Rattle.std.specs.Prelude.{ℕ, zero, suc, ◌+◌, ◌<◌, ◌≤◌, ◌^◌, List, [], ◌∷◌, nat_lt, if◌then◌else◌}
use Rattle.graph_core.specs.declared.exchange.End.{End}
use Rattle.graph_core.specs.declared.exchange.End.TheVariants.{Fresh}
use Rattle.drawn_rules.specs.declared.rows.Row.{Row}
use Rattle.drawn_rules.specs.declared.rows.Row.TheVariants.{Nodes, Ports, PortsBut}

-- the port of an index, counted from 0, where one is left out
abbrev pub port_but : ℕ → ℕ → ℕ
port_but left_out index = if nat_lt (index + 1) left_out then index + 1 else index + 2

-- the end for the lane of an index, counted from 0
abbrev pub row_end : Row → ℕ → End
row_end (Nodes first port) index = Fresh (first + index) port
row_end (Ports node) index = Fresh node (index + 1)
row_end (PortsBut node left_out) index = Fresh node (port_but left_out index)

-- places and ports of so many lanes are within the range of their numbers
abbrev pub Reaches : Row → ℕ → Type 0
Reaches (Nodes first port) lanes = first + lanes < 2 ^ 64
Reaches (Ports node) lanes = lanes ≤ 254
Reaches (PortsBut node left_out) lanes = lanes ≤ 254

-- a wire for each of so many lanes, from the one of this index on
abbrev pub row_wires : Row → Row → ℕ → ℕ → List (End × End)
row_wires from to index zero = []
row_wires from to index (suc lanes) = (row_end from index, row_end to index) ∷ row_wires from to (suc index) lanes

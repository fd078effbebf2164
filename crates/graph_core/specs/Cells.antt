-- Nodes by id, with what stands at the other ends of their ports.
use Rattle.std.specs.Prelude.{◌≡◌, ℕ, Option, Some, None, length, replicate, refl}
use Rattle.std.specs.FinMap as map
use Rattle.std.specs.Coded.{Coded, code_by, coded×, coded_ℕ}
use Rattle.port_types.specs.declared.side.Side.{Side}
use Rattle.port_types.specs.declared.side.Side.TheVariants.{Ins, Outs}
use Rattle.components.specs.declared.node.Node.{Node}
use Rattle.components.specs.Kind.{ins as kind_ins, outs as kind_outs}
use Rattle.graph_core.specs.declared.place.NodeId.{NodeId}
use Rattle.graph_core.specs.declared.place.PortAt.{PortAt}
use Rattle.graph_core.specs.declared.cells.Cell.{Cell}
use Rattle.graph_core.specs.contracts.place.NodeId as node_id
use Rattle.graph_core.specs.contracts.cells.Cell as cell
use Rattle.graph_core.specs.Place.{id_cmp, index_of}
use Rattle.graph_core.specs.Ends.{EndList, with_end_of}

-- the cell of each live node by its id, and how many slots there are
pub record CellsValue : Type 0 where
  pub cells : map.FinMap id_cmp Cell
  pub slots : ℕ

abbrev pub cells_code : Coded CellsValue
cells_code =
    code_by (map.FinMap id_cmp Cell × ℕ) (coded× (map.code node_id.the_row.coded cell.the_row.coded) coded_ℕ) (λ c. (c.cells, c.slots)) (λ p. record { cells = p.0; slots = p.1 }) (λ _. refl)

-- the id of a cell that is put in: where each slot has a cell, that of a new slot behind all others
abbrev pub IsNext : CellsValue → NodeId → Type 0
IsNext c id = map.len c.cells ≡ c.slots → index_of id ≡ c.slots

-- a node with no wire at its ports
abbrev pub bare : Node → Cell
bare node = record { node = node; ins = replicate (length (kind_ins node.kind)) None; outs = replicate (length (kind_outs node.kind)) None }

-- the ends of one side
abbrev pub ends : Cell → Side → EndList
ends cell Ins = cell.ins
ends cell Outs = cell.outs

abbrev pub with_ends : Cell → Side → EndList → Cell
with_ends cell Ins list = record cell { ins = list }
with_ends cell Outs list = record cell { outs = list }

-- a cell with a port at the other end of one of its ports, or none
abbrev pub cell_with : Cell → Side → ℕ → Option PortAt → Cell
cell_with cell side port end = with_ends cell side (with_end_of (ends cell side) port end)

abbrev pub put_end : CellsValue → Side → PortAt → Option PortAt → Option Cell → CellsValue
put_end c side p end None = c
put_end c side p end (Some cell) = record c { cells = map.insert c.cells p.node (cell_with cell side p.port end) }

-- with a port at the other end of a port, or none
abbrev pub with_end : CellsValue → Side → PortAt → Option PortAt → CellsValue
with_end c side p end = put_end c side p end (map.get c.cells p.node)

abbrev pub without_cell : CellsValue → NodeId → CellsValue
without_cell c id = record c { cells = map.remove c.cells id }

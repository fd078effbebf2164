-- New nodes in their cells, before a graph has them.
use Rattle.std.specs.Prelude.{◌≡◌}
use Rattle.components.specs.declared.node.Node.{Node}
use Rattle.graph_core.specs.declared.steps.Made.{Made}
use Rattle.graph_core.specs.Cells.{bare}

-- the cell has no wire at its ports, and the name is that of its node
abbrev pub IsMade : Made → Type 0
IsMade made = (made.name.items ≡ made.cell.node.name) × (made.cell ≡ bare made.cell.node)

abbrev pub node_of : Made → Node
node_of made = made.cell.node

-- How cells stand in slots.
use Rattle.std.specs.Prelude.{◌≡◌, ℕ, zero, suc, ◌+◌, List, [], ◌∷◌, length, Option, Some, None, slice_get, slice_set}
use Rattle.std.specs.FinMap as map
use Rattle.port_types.specs.declared.side.Side.{Side}
use Rattle.graph_core.specs.declared.place.NodeId.{NodeId}
use Rattle.graph_core.specs.declared.place.PortAt.{PortAt}
use Rattle.graph_core.specs.declared.cells.Cell.{Cell}
use Rattle.graph_core.specs.declared.cells.Slot.{Slot}
use Rattle.graph_core.specs.declared.cells.Slot.TheVariants.{Live, Free}
use Rattle.graph_core.specs.Place.{id_of}
use Rattle.graph_core.specs.Cells.{CellsValue, cell_with}

abbrev pub cell_in : Option Slot → Option Cell
cell_in None = None
cell_in (Some (Live cell)) = Some cell
cell_in (Some (Free next)) = None

abbrev pub next_in : Option Slot → Option ℕ
next_in None = None
next_in (Some (Live cell)) = None
next_in (Some (Free next)) = next

-- the cells of these slots, of which the first has this index
abbrev pub live_from : ℕ → List Slot → List (NodeId × Cell)
live_from index [] = []
live_from index (Live cell ∷ slots) = (id_of index, cell) ∷ live_from (suc index) slots
live_from index (Free next ∷ slots) = live_from (suc index) slots

abbrev pub shown : List Slot → CellsValue
shown slots = record { cells = map.from_entries (live_from zero slots); slots = length slots }

-- from this slot on, so many free slots each name the next, and the last names none
abbrev pub IsChain : List Slot → ℕ → Option ℕ → Type 0
IsChain slots zero from = from ≡ None
IsChain slots (suc count) from =
    (index : ℕ) × (next : Option ℕ) × (from ≡ Some index) × (slice_get slots index ≡ Some (Free next)) × IsChain slots count next

-- each slot is live or on the chain
pub record IsChained (slots : List Slot) (from : Option ℕ) : Type 0 where
  pub free : ℕ
  pub total : map.len (shown slots).cells + free ≡ length slots
  pub chain : IsChain slots free from

abbrev pub slot_with : Slot → Side → ℕ → Option PortAt → Slot
slot_with (Live cell) side port end = Live (cell_with cell side port end)
slot_with (Free next) side port end = Free next

abbrev pub put_end_in : List Slot → Side → PortAt → Option PortAt → Option Slot → List Slot
put_end_in slots side p end None = slots
put_end_in slots side p end (Some slot) = slice_set slots p.node.index (slot_with slot side p.port end)

-- with a port at the other end of a port, or none
abbrev pub with_end_in : List Slot → Side → PortAt → Option PortAt → List Slot
with_end_in slots side p end = put_end_in slots side p end (slice_get slots p.node.index)

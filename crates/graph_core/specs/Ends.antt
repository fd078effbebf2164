-- What stands at the other ends of the ports of one side.
use Rattle.std.specs.Prelude.{ℕ, zero, suc, List, Option, Some, None, slice_get, slice_set}
use Rattle.graph_core.specs.declared.place.PortAt.{PortAt}

-- by port, the port at the other end of its wire
abbrev pub EndList : Type 0
EndList = List (Option PortAt)

abbrev pub flat : {A : Type 0} → Option (Option A) → Option A
flat None = None
flat (Some found) = found

-- the port at the other end of the wire at port i
abbrev pub end_of : EndList → ℕ → Option PortAt
end_of ends zero = None
end_of ends (suc i) = flat (slice_get ends i)

abbrev pub with_end_of : EndList → ℕ → Option PortAt → EndList
with_end_of ends zero end = ends
with_end_of ends (suc i) end = slice_set ends i end

use Rattle.std.proofs.Common.{drop, length, map, vec_len, vec_capacity}
use Rattle.std.specs.FinMap as finite
use Rattle.graph_core.specs.Inside.{IsArena, value_of}
use Rattle.graph_core.specs.Made.{node_of}
use Rattle.graph_core.proofs.Exchanging.{Room, SoAdded}
use Rattle.graph_core.proofs.exchange.put_all.Given as goal

abbrev pub invariant-loop-one : goal.invariant-loop-one
invariant-loop-one l =
    IsArena l.cells l.names.ids
    × SoAdded (value_of l.initial.cells l.initial.names.ids) (map node_of l.fn.made.items) l.ids.items (value_of l.cells l.names.ids) (drop (length l.yielded) (map node_of l.fn.made.items)) (length l.yielded)
    × Room (length l.fn.made.items) (length l.yielded) l.names.room (finite.len l.cells.cells) l.cells.slots (vec_len l.ids) (vec_capacity l.ids)

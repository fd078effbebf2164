use Rattle.std.proofs.Common.{drop, ◌≤◌}
use Rattle.graph_core.specs.Inside.{IsArena, value_of}
use Rattle.graph_core.proofs.Exchanging.{SoRemoved}
use Rattle.graph_core.proofs.exchange.take_all.Given as goal

abbrev pub invariant-loop-id : goal.invariant-loop-id
invariant-loop-id l =
    IsArena l.cells l.names.ids × SoRemoved (value_of l.initial.cells l.initial.names.ids) l.gone (value_of l.cells l.names.ids) (drop l.id-index l.gone) × (l.initial.names.room ≤ l.names.room)

use Rattle.std.proofs.Common.{◌≡◌, ◌<◌}
use Rattle.components.specs.Name.{Port}
use Rattle.graph_core.specs.GraphValue.{name_by}
use Rattle.loop_find.specs.Feeding.{Considers}
use Rattle.loop_find.proofs.candidates.enter_sources.Given as goal

abbrev pub invariant-loop-port : goal.invariant-loop-port
invariant-loop-port l = record {
  so_far : Considers l.g l.takers.ids (λ (p : Port). (p.node ≡ name_by l.g.ids l.id) × (p.port < l.port)) l.initial.seen.ids l.seen.ids;
  room : l.seen.room ≡ l.initial.seen.room;
}

use Rattle.std.proofs.Common.{◌≡◌, ℕ, ◌<◌, false, is_some}
use Rattle.std.specs.FinMap as finite
use Rattle.graph_core.specs.GraphValue.{name_by}
use Rattle.graph_core.specs.Place.{id_of}
use Rattle.module_sem.proofs.conditions.are_apart.Given as goal

abbrev pub invariant-loop-index : goal.invariant-loop-index
invariant-loop-index l = (k : ℕ) → k < l.index → is_some (finite.get l.g.graph.nodes (name_by l.c.ids (id_of k))) ≡ false

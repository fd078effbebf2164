use Rattle.std.proofs.Common.{ℕ, ◌<◌}
use Rattle.graph_core.specs.Place.{id_of}
use Rattle.subst_engine.specs.Matching.{IdHasRoom}
use Rattle.subst_engine.proofs.matching.has_room.Given as goal

abbrev pub invariant-loop-index : goal.invariant-loop-index
invariant-loop-index l = (k : ℕ) → k < l.index → IdHasRoom l.g.graph l.left.graph l.right (id_of k)

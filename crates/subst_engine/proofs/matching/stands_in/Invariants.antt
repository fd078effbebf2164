use Rattle.std.proofs.Common.{ℕ, ◌<◌}
use Rattle.graph_core.specs.Place.{id_of}
use Rattle.subst_engine.specs.Matching.{IdMatches}
use Rattle.subst_engine.proofs.matching.stands_in.Given as goal

abbrev pub invariant-loop-index : goal.invariant-loop-index
invariant-loop-index l = (k : ℕ) → k < l.index → IdMatches l.g.graph l.left (id_of k)

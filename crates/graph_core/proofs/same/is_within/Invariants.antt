use Rattle.std.proofs.Common.{ℕ, ◌<◌}
use Rattle.graph_core.specs.Place.{id_of}
use Rattle.graph_core.specs.Within.{IdStandsIn}
use Rattle.graph_core.proofs.same.is_within.Given as goal

abbrev pub invariant-loop-index : goal.invariant-loop-index
invariant-loop-index l = (k : ℕ) → k < l.index → IdStandsIn l.a (id_of k) l.b.graph

use Rattle.std.proofs.Common.{◌≡◌, map, take}
use Rattle.circuits.specs.PluggedGraph.{plugged_graph}
use Rattle.module_sem.specs.GraphLinks.{by_names}
use Rattle.module_sem.proofs.plugging.plug.Given as goal

abbrev pub invariant-loop-link : goal.invariant-loop-link
invariant-loop-link l = l.both.graph ≡ plugged_graph l.c.graph (map (by_names l.c l.g) (take l.link-index l.links)) l.g.graph

use Rattle.std.proofs.Common.{true}
use Rattle.loop_laws.specs.Faults.{Row}
use Rattle.loop_laws.specs.declared.fault.LoopFaultKind.TheVariants.{SelectLeaf}
use Rattle.circuits.specs.Circuit.{circuit_of}
use Rattle.graph_core.specs.GraphValue.{name_by}
use Rattle.loop_find.proofs.MarkWalks.{live_of}
use Rattle.loop_find.proofs.RowNodes.{leaf_judged}
use Rattle.loop_find.proofs.rows.select_leaf.Goals as goal

pub least-requires : goal.least-requires
least-requires c = live_of c.args.g.now (Row (circuit_of c.args.g.now.graph) (name_by c.args.g.now.ids c.args.mark) true SelectLeaf) c.find_leaves.new.leaves.ids (c.in_ok-find_leaves.ensures.all true)

pub returns-clause-node : goal.returns-clause-node
returns-clause-node c =
    λ goes_back. leaf_judged c.args.g.now c.is_graph.ensures (name_by c.args.g.now.ids c.args.mark) goes_back c.find_leaves.new.leaves.ids (c.in_ok-find_leaves.ensures.all goes_back) c.least.result c.least.ensures

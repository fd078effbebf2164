use Rattle.std.proofs.Common.{length}
use Rattle.mux_branch_rules.proofs.mux_tree.+outputs_fed.Given as goal

abbrev pub decreases-outputs_fed : goal.decreases-outputs_fed
decreases-outputs_fed l = length l.kinds.now

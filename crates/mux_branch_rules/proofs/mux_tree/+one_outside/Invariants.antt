use Rattle.std.proofs.Common.{length}
use Rattle.mux_branch_rules.proofs.mux_tree.+one_outside.Given as goal

abbrev pub decreases-one_outside : goal.decreases-one_outside
decreases-one_outside l = length l.sources.now

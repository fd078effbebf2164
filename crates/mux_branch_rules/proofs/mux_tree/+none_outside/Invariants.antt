use Rattle.std.proofs.Common.{length}
use Rattle.mux_branch_rules.proofs.mux_tree.+none_outside.Given as goal

abbrev pub decreases-none_outside : goal.decreases-none_outside
decreases-none_outside l = length l.sources.now

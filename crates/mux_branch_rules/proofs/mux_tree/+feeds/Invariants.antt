use Rattle.std.proofs.Common.{length}
use Rattle.mux_branch_rules.proofs.mux_tree.+feeds.Given as goal

abbrev pub decreases-feeds : goal.decreases-feeds
decreases-feeds l = length l.sources.now

use Rattle.mux_branch_rules.proofs.mux_tree.+all_fed.Given as goal

abbrev pub decreases-all_fed : goal.decreases-all_fed
decreases-all_fed l = l.ports

use Rattle.std.proofs.Common.{◌≡◌, ◌∷◌, take}
use Rattle.mux_branch_rules.proofs.lanes.listed_names.Given as goal

abbrev pub invariant-loop-index : goal.invariant-loop-index
invariant-loop-index l = l.names.items ≡ l.fork ∷ take l.index l.branches

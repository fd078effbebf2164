use Rattle.std.proofs.Common.{◌≡◌, ◌∷◌, ◌++◌, drop}
use Rattle.loop_body.specs.Judging.{kinds_of, rows_of, unmarked}
use Rattle.loop_body.proofs.marks.unmarked_rows.Given as goal

abbrev pub invariant-loop-node : goal.invariant-loop-node
invariant-loop-node l = l.rows.items ++ unmarked (rows_of (drop l.node-index (kinds_of l.nodes))) ≡ unmarked (rows_of (l.split ∷ kinds_of l.nodes))

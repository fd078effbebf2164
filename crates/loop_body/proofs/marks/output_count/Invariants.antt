use Rattle.std.proofs.Common.{◌≡◌, ◌+◌, ◌*◌, ◌≤◌, ◌∷◌, length, drop}
use Rattle.fun_expr.specs.Each.{total}
use Rattle.loop_body.specs.Judging.{kinds_of, rows_of}
use Rattle.loop_body.proofs.marks.output_count.Given as goal

abbrev pub invariant-loop-node : goal.invariant-loop-node
invariant-loop-node l =
    (l.count + total length (rows_of (drop l.node-index (kinds_of l.nodes))) ≡ total length (rows_of (l.split ∷ kinds_of l.nodes))) × (l.count ≤ 255 * l.node-index + 255)

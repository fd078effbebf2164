use Rattle.std.proofs.Common.{◌≡◌, ◌++◌, drop}
use Rattle.std.specs.List.{concat}
use Rattle.graph_read.proofs.shapes.joined.Given as goal

abbrev pub invariant-loop-shape : goal.invariant-loop-shape
invariant-loop-shape l = l.widths.items ++ concat (drop l.shape-index l.shapes) ≡ concat l.shapes

use Rattle.std.proofs.Common.{◌≡◌, ◌++◌, drop}
use Rattle.std.specs.List.{concat}
use Rattle.loop_body.proofs.function.all_widths.Given as goal

-- the widths so far, and those of the rest of the shapes
abbrev pub invariant-loop-shape : goal.invariant-loop-shape
invariant-loop-shape l = l.widths.items ++ concat (drop l.shape-index l.shapes) ≡ concat l.shapes

use Rattle.std.proofs.Common.{◌≡◌, ◌++◌, drop}
use Rattle.std.specs.Vec.Iter.{into_iter_items}
use Rattle.loop_body.specs.BodyFunction.{cut}
use Rattle.loop_body.proofs.binds.parts.Given as goal

-- the parts so far, and those that the rest of the shapes cut from the rest of the wire
abbrev pub invariant-loop-shape : goal.invariant-loop-shape
invariant-loop-shape l = l.row ++ cut (drop l.shape-index l.shapes) (into_iter_items l.rest) ≡ cut l.shapes l.fn.wire.items

use Rattle.std.proofs.Common.{◌≡◌, ℕ, ◌<◌}
use Rattle.components.specs.Kind.{ins, outs}
use Rattle.components.specs.Name.{port_get}
use Rattle.components.specs.Fields.{field_of}
use Rattle.components.proofs.port_shapes.have_one_shape.Given as goal

abbrev pub invariant-loop-index : goal.invariant-loop-index
invariant-loop-index l = (k : ℕ) → k < l.index → field_of (port_get (outs l.source) l.output) k ≡ field_of (port_get (ins l.target) l.input) k

use Rattle.std.proofs.Common.{◌≡◌, ◌++◌, drop}
use Rattle.loop_body.specs.BodyFunction.{fields_from}
use Rattle.loop_body.proofs.function.input_fields.Given as goal

-- the fields so far, and those of the rest of the widths
abbrev pub invariant-loop-place : goal.invariant-loop-place
invariant-loop-place l = l.wire.items ++ fields_from l.place (drop l.place l.widths) ≡ fields_from 0 l.widths

use Rattle.std.proofs.Common.{◌≡◌, drop}
use Rattle.loop_body.specs.BodyFunction.{appended}
use Rattle.loop_body.proofs.binds.append_binds.Given as goal

-- what the rest of the binds makes of what there is now is what all make of what there was
abbrev pub invariant-loop-bind : goal.invariant-loop-bind
invariant-loop-bind l = appended l.fields (drop l.bind-index l.added) l.places.items l.binds.items ≡ appended l.fields l.added l.initial.places.items l.initial.binds.items

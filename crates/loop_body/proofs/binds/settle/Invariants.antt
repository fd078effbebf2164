use Rattle.loop_body.specs.Binding.{IsSettled}
use Rattle.loop_body.proofs.binds.settle.Given as goal

-- the expressions so far stand at the places so far
abbrev pub invariant-loop-wired : goal.invariant-loop-wired
invariant-loop-wired l = IsSettled l.fields l.initial.binds.items l.yielded l.places.items l.binds.items

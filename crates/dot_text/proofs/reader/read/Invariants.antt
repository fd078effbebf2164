use Rattle.std.proofs.Common.{◌-◌, length}
use Rattle.dot_text.specs.States.{state_of}
use Rattle.dot_text.proofs.Reading.{Upto}
use Rattle.dot_text.proofs.reader.read.Given as goal

abbrev pub invariant-loop-at : goal.invariant-loop-at
invariant-loop-at l = Upto l.bytes l.fn.from l.at (state_of l.state)

abbrev pub decreases-loop-at : goal.decreases-loop-at
decreases-loop-at l = length l.bytes - l.at

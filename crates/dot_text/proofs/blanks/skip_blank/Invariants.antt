use Rattle.std.proofs.Common.{◌≤◌, ◌-◌, length}
use Rattle.dot_text.specs.Blanks.{Blanks}
use Rattle.dot_text.proofs.blanks.skip_blank.Given as goal

abbrev pub invariant-loop-count : goal.invariant-loop-count
invariant-loop-count l = Blanks l.bytes l.from l.place × (l.place ≤ length l.bytes)

abbrev pub decreases-loop-count : goal.decreases-loop-count
decreases-loop-count l = length l.bytes - l.place

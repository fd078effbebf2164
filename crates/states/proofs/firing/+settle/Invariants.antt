use Rattle.std.proofs.Common.{length}
use Rattle.states.proofs.firing.+settle.Given as goal

abbrev pub decreases-settle : goal.decreases-settle
decreases-settle l = length l.given

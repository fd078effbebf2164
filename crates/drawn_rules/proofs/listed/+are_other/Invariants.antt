use Rattle.std.proofs.Common.{length}
use Rattle.drawn_rules.proofs.listed.+are_other.Given as goal

abbrev pub decreases-are_other : goal.decreases-are_other
decreases-are_other l = length l.names.now

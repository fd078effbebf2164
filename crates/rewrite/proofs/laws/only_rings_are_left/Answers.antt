use Rattle.rewrite.proofs.StrippedByTurns.{stripped_leaves_rings}
use Rattle.rewrite.proofs.laws.only_rings_are_left.Goals as goal

pub returns : goal.returns
returns c = stripped_leaves_rings

use Rattle.rewrite.proofs.StrippedByTurns.{has_stripped, one_stripped}
use Rattle.rewrite.proofs.laws.one_stripped_graph.Goals as goal

pub returns-clause-some : goal.returns-clause-some
returns-clause-some c = has_stripped

pub returns-clause-one : goal.returns-clause-one
returns-clause-one c = one_stripped

use Rattle.rewrite.proofs.TurnsMade.{turns_end}
use Rattle.rewrite.proofs.StrippedByTurns.{turns_strip}
use Rattle.rewrite.proofs.laws.turns_strip.Goals as goal

pub returns-clause-end : goal.returns-clause-end
returns-clause-end c = turns_end

pub returns-clause-strip : goal.returns-clause-strip
returns-clause-strip c = turns_strip

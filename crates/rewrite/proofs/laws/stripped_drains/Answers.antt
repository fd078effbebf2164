-- The law of circuits is what the call ensures.
use Rattle.rewrite.proofs.KeepingDrains as keeping
use Rattle.rewrite.proofs.laws.stripped_drains.Goals as goal

pub returns : goal.returns
returns c = keeping.stripped_drains c.buffer_keeps_drains.ensures.graph

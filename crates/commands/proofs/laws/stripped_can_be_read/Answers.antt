use Rattle.commands.proofs.StrippedBack.{stripped_can_be_read}
use Rattle.commands.proofs.laws.stripped_can_be_read.Goals as goal

pub returns : goal.returns
returns c = stripped_can_be_read c.stripped_refines.ensures.typed

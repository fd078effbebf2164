use Rattle.components.proofs.Words.{words_read_back}
use Rattle.components.proofs.laws.words_read_back.Goals as goal

pub returns : goal.returns
returns c = words_read_back

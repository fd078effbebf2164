use Rattle.dot_text.proofs.Reading.{reading_says}
use Rattle.dot_text.proofs.laws.reading_decides.Goals as goal

pub returns : goal.returns
returns c = reading_says

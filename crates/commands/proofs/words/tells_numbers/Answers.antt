use Rattle.commands.proofs.Numerals.{tells_numbers}
use Rattle.commands.proofs.words.tells_numbers.Goals as goal

pub returns : goal.returns
returns c = tells_numbers c.numerals_tell_numbers.ensures

use Rattle.dot_text.proofs.Longest.{token_longest}
use Rattle.dot_text.proofs.laws.token_is_longest.Goals as goal

pub returns : goal.returns
returns c = token_longest

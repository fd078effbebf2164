use Rattle.dot_text.proofs.Stream.{stream_is}
use Rattle.dot_text.proofs.laws.stream_decides.Goals as goal

pub returns : goal.returns
returns c = stream_is

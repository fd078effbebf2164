use Rattle.dot_text.proofs.Places.{stands_unique}
use Rattle.dot_text.proofs.laws.one_document.Goals as goal

pub returns : goal.returns
returns c = λ bytes from doc other to end a b. let same = stands_unique bytes from doc other to end a b in (same.docs, same.ends)

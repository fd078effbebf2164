use Rattle.dot_text.proofs.Quoted.{quote_opens}
use Rattle.dot_text.proofs.scan.starts.Goals as goal

pub returns-then-byte-eq34-clause-keeps : goal.returns-then-byte-eq34-clause-keeps
returns-then-byte-eq34-clause-keeps c = quote_opens c.new.result.items c.args.byte c.if-byte-eq34.true c.new.ensures.items

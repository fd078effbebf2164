use Rattle.dot_text.proofs.Quoted.{quote_closes, plain_byte, backslash}
use Rattle.dot_text.proofs.scan.quoted_taken.Goals as goal

pub returns-then-byte-eq34-clause-keeps : goal.returns-then-byte-eq34-clause-keeps
returns-then-byte-eq34-clause-keeps c = λ text h u. quote_closes text c.args.value.items c.args.byte c.if-byte-eq34.true h u

pub returns-then-byte-eq92-clause-keeps : goal.returns-then-byte-eq92-clause-keeps
returns-then-byte-eq92-clause-keeps c = λ text h. backslash text c.args.value.items c.args.byte c.if-byte-eq92.true h

pub returns-clause-keeps : goal.returns-clause-keeps
returns-clause-keeps c = λ text h. plain_byte text c.args.value.items _ c.args.byte c.in_ok-push.ensures.items h

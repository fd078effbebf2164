use Rattle.dot_text.proofs.Quoted.{escaped_byte, escaped_quote}
use Rattle.dot_text.proofs.scan.escaped_taken.Goals as goal

pub returns-then-byte-eq34-clause-keeps : goal.returns-then-byte-eq34-clause-keeps
returns-then-byte-eq34-clause-keeps c = λ text h. escaped_quote text c.args.value.items _ c.args.byte c.in_ok-push.ensures.items h

pub returns-clause-keeps : goal.returns-clause-keeps
returns-clause-keeps c = λ text h. escaped_byte text c.args.value.items _ c.args.byte (cc (c.in_ok-push-2.ensures.items, c.in_ok-push-3.ensures.items)) h

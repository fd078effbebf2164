use Rattle.dot_text.proofs.scan.quotes_taken.Goals as goal

pub returns-then-passed-clause-same : goal.returns-then-passed-clause-same
returns-then-passed-clause-same c = λ text. rw c.if-passed.true (c.escaped_taken.ensures.same text)

pub returns-else-passed-clause-same : goal.returns-else-passed-clause-same
returns-else-passed-clause-same c = λ text. rw c.if-passed.false (c.quoted_taken.ensures.same text)

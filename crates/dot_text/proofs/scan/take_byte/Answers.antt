use Rattle.dot_text.proofs.scan.take_byte.Goals as goal

pub returns-in_ok-quotes_taken-in-InQuotes-clause-same : goal.returns-in_ok-quotes_taken-in-InQuotes-clause-same
returns-in_ok-quotes_taken-in-InQuotes-clause-same c = rw c.in-InQuotes.is (c.in_ok-quotes_taken-in-InQuotes.ensures.same c.args.text.now)

pub returns-in-Slash-clause-same : goal.returns-in-Slash-clause-same
returns-in-Slash-clause-same c = rw c.in-Slash.is (c.slash_taken.ensures.same c.args.text.now)

pub returns-in-Slash-clause-keeps : goal.returns-in-Slash-clause-keeps
returns-in-Slash-clause-keeps c = c.slash_taken.ensures.keeps c.args.text.now

pub returns-in-InLine-clause-same : goal.returns-in-InLine-clause-same
returns-in-InLine-clause-same c = rw c.in-InLine.is (c.line_taken.ensures.same c.args.text.now)

pub returns-in-InLine-clause-keeps : goal.returns-in-InLine-clause-keeps
returns-in-InLine-clause-keeps c = c.line_taken.ensures.keeps c.args.text.now

pub returns-in-InBlock-clause-same : goal.returns-in-InBlock-clause-same
returns-in-InBlock-clause-same c = rw c.in-InBlock.is (c.block_taken.ensures.same c.args.text.now)

pub returns-in-InBlock-clause-keeps : goal.returns-in-InBlock-clause-keeps
returns-in-InBlock-clause-keeps c = c.block_taken.ensures.keeps c.args.text.now

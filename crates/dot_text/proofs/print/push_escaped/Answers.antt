use Rattle.dot_text.proofs.Lines.{next_char}
use Rattle.dot_text.proofs.print.push_escaped.Goals as goal

pub loop-c-preserved : goal.loop-c-preserved
loop-c-preserved c = next_char c.in-Some.c _ _ _ _ _ c.in-Some.ensures.steps.0 c.in_ok-push_escaped_char.ensures c.loop-c.invariant

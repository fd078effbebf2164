use Rattle.dot_text.proofs.Prefixes.{run_keeps}
use Rattle.dot_text.proofs.runs.run_on.Goals as goal

pub returns-in_ok-value-in-InQuotes-false-default-clause-keeps : goal.returns-in_ok-value-in-InQuotes-false-default-clause-keeps
returns-in_ok-value-in-InQuotes-false-default-clause-keeps c =
    λ text h more u. run_keeps text _ c.in-InQuotes-false-default.value.items _ more c.in_ok-value-in-InQuotes-false-default.ensures.value
    (rw c.in-InQuotes-false-default.field-0-test at (rw c.in-InQuotes-false-default.is at h)) u

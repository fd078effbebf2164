use Rattle.dot_text.proofs.Skipping.{skipping_says, skips_unique, fails_unique, not_both}
use Rattle.dot_text.proofs.laws.skipping_decides.Goals as goal

pub returns-clause-found : goal.returns-clause-found
returns-clause-found c = skipping_says

pub returns-clause-one : goal.returns-clause-one
returns-clause-one c = skips_unique

pub returns-clause-one_fault : goal.returns-clause-one_fault
returns-clause-one_fault c = fails_unique

pub returns-clause-not_both : goal.returns-clause-not_both
returns-clause-not_both c = not_both

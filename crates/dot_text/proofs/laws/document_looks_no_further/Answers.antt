use Rattle.dot_text.proofs.AtOnce.{stands_within}
use Rattle.dot_text.proofs.Prefix.{stands_on}
use Rattle.dot_text.proofs.laws.document_looks_no_further.Goals as goal

pub returns-clause-below : goal.returns-clause-below
returns-clause-below c = stands_on

pub returns-clause-within : goal.returns-clause-within
returns-clause-within c = stands_within

use Rattle.op_table.proofs.Quotients.{unsigned_quotient, unsigned_division_comes_back}
use Rattle.op_table.proofs.laws.unsigned_division.Goals as goal

pub returns-clause-whole : goal.returns-clause-whole
returns-clause-whole c = unsigned_quotient

pub returns-clause-at_width : goal.returns-clause-at_width
returns-clause-at_width c = unsigned_division_comes_back

use Rattle.op_table.proofs.Quotients.{signed_quotient, signed_remainder, signed_division_comes_back, least_by_minus_one}
use Rattle.op_table.proofs.laws.signed_division.Goals as goal

pub returns-clause-whole : goal.returns-clause-whole
returns-clause-whole c = signed_quotient

pub returns-clause-remainder : goal.returns-clause-remainder
returns-clause-remainder c = signed_remainder

pub returns-clause-at_width : goal.returns-clause-at_width
returns-clause-at_width c = signed_division_comes_back

pub returns-clause-corner : goal.returns-clause-corner
returns-clause-corner c = least_by_minus_one

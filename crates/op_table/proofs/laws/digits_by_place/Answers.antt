use Rattle.op_table.proofs.Digits.{digits_by_place}
use Rattle.op_table.proofs.laws.digits_by_place.Goals as goal

pub returns : goal.returns
returns c = digits_by_place

use Rattle.op_table.proofs.Readings.{reading_comes_back, number_comes_back}
use Rattle.op_table.proofs.laws.readings_come_back.Goals as goal

pub returns-clause-reading : goal.returns-clause-reading
returns-clause-reading c = reading_comes_back

pub returns-clause-number : goal.returns-clause-number
returns-clause-number c = number_comes_back

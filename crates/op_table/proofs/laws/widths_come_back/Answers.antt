use Rattle.op_table.proofs.Readings.{trunc_undoes_zext, trunc_undoes_sext, sext_keeps_reading}
use Rattle.op_table.proofs.laws.widths_come_back.Goals as goal

pub returns-clause-zeros : goal.returns-clause-zeros
returns-clause-zeros c = trunc_undoes_zext

pub returns-clause-sign : goal.returns-clause-sign
returns-clause-sign c = trunc_undoes_sext

pub returns-clause-reading : goal.returns-clause-reading
returns-clause-reading c = sext_keeps_reading

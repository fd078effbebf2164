use Rattle.op_table.proofs.Fitting.{value_fits}
use Rattle.op_table.proofs.laws.value_fits.Goals as goal

pub returns : goal.returns
returns c = value_fits

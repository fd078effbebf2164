use Rattle.op_table.proofs.Fitting.{value_fits}
use Rattle.op_table.proofs.value.apply.Goals as goal

pub returns-clause-fits : goal.returns-clause-fits
returns-clause-fits c = rw c.of_all.ensures (value_fits c.args.op c.args.args.now c.args.out c.requires.typed c.requires.fit)

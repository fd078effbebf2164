use Rattle.circuits.proofs.Renamed.{renamed_refines, renamed_refines_old, old_refines_renamed}
use Rattle.circuits.proofs.names_show_nothing.Goals as goal

pub returns-clause-new : goal.returns-clause-new
returns-clause-new c = λ x d ty keeps. renamed_refines_old x d ty keeps (record { operators = c.value_fits.ensures; functions = c.fun_value_fits.ensures })

pub returns-clause-old : goal.returns-clause-old
returns-clause-old c = old_refines_renamed (record { operators = c.value_fits.ensures; functions = c.fun_value_fits.ensures })

pub returns-clause-both : goal.returns-clause-both
returns-clause-both c = renamed_refines

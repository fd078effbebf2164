use Rattle.circuits.proofs.Buffers.Several.{all_dropped, all_put}
use Rattle.circuits.proofs.buffers_show_nothing.Goals as goal

pub returns-clause-dropped : goal.returns-clause-dropped
returns-clause-dropped c = all_dropped (record { operators = c.value_fits.ensures; functions = c.fun_value_fits.ensures })

pub returns-clause-put : goal.returns-clause-put
returns-clause-put c = all_put (record { operators = c.value_fits.ensures; functions = c.fun_value_fits.ensures })

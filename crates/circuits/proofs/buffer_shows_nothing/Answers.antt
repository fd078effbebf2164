use Rattle.circuits.proofs.Buffers.Circuits.{dropped, put}
use Rattle.circuits.proofs.buffer_shows_nothing.Goals as goal

pub returns-clause-dropped : goal.returns-clause-dropped
returns-clause-dropped c = dropped (record { operators = c.value_fits.ensures; functions = c.fun_value_fits.ensures })

pub returns-clause-put : goal.returns-clause-put
returns-clause-put c = put (record { operators = c.value_fits.ensures; functions = c.fun_value_fits.ensures })

use Rattle.circuits.proofs.Buffers.Graphs.{graph_drop_refines, graph_put_refines}
use Rattle.circuits.proofs.graph_buffer_shows_nothing.Goals as goal

pub returns-clause-dropped : goal.returns-clause-dropped
returns-clause-dropped c = λ h g b ty w. graph_drop_refines h g b ty w (record { operators = c.value_fits.ensures; functions = c.fun_value_fits.ensures })

pub returns-clause-put : goal.returns-clause-put
returns-clause-put c = λ h g b ty w. graph_put_refines h g b ty w (record { operators = c.value_fits.ensures; functions = c.fun_value_fits.ensures })

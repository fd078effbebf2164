use Rattle.circuits.proofs.Fitting.{start_fits, step_fits, reached_fits}
use Rattle.circuits.proofs.states_fit.Goals as goal

pub returns-clause-start : goal.returns-clause-start
returns-clause-start c = start_fits

pub returns-clause-step : goal.returns-clause-step
returns-clause-step c = λ d ty s n l t st h. step_fits (record { operators = c.value_fits.ensures; functions = c.fun_value_fits.ensures }) d ty s n l t st h

pub returns-clause-run : goal.returns-clause-run
returns-clause-run c = reached_fits (record { operators = c.value_fits.ensures; functions = c.fun_value_fits.ensures })

use Rattle.loop_body.proofs.Turns.{function_is_typed, function_is_light, function_turns}
use Rattle.loop_body.proofs.laws.function_computes_turn.Goals as goal

pub returns-clause-typed : goal.returns-clause-typed
returns-clause-typed c = function_is_typed (record { tested = c.tests_are_the_table.ensures.widths; functions = c.fun_value_fits.ensures; values = c.value_fits.ensures; few = c.typed_widths_are_few.ensures })

pub returns-clause-light : goal.returns-clause-light
returns-clause-light c = function_is_light (record { tested = c.tests_are_the_table.ensures.widths; functions = c.fun_value_fits.ensures; values = c.value_fits.ensures; few = c.typed_widths_are_few.ensures })

pub returns-clause-turns : goal.returns-clause-turns
returns-clause-turns c = function_turns (record { tested = c.tests_are_the_table.ensures.widths; functions = c.fun_value_fits.ensures; values = c.value_fits.ensures; few = c.typed_widths_are_few.ensures })

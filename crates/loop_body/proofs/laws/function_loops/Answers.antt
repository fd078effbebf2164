use Rattle.loop_body.proofs.Looping.{loop_is_one_law, by_function, of_function}
use Rattle.loop_body.proofs.laws.function_loops.Goals as goal

pub returns-clause-once : goal.returns-clause-once
returns-clause-once c = loop_is_one_law (record { tested = c.tests_are_the_table.ensures.widths; functions = c.fun_value_fits.ensures; values = c.value_fits.ensures; few = c.typed_widths_are_few.ensures })

pub returns-clause-loops : goal.returns-clause-loops
returns-clause-loops c = by_function (record { tested = c.tests_are_the_table.ensures.widths; functions = c.fun_value_fits.ensures; values = c.value_fits.ensures; few = c.typed_widths_are_few.ensures })

pub returns-clause-back : goal.returns-clause-back
returns-clause-back c = of_function (record { tested = c.tests_are_the_table.ensures.widths; functions = c.fun_value_fits.ensures; values = c.value_fits.ensures; few = c.typed_widths_are_few.ensures })

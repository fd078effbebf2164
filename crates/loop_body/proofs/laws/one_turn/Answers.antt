use Rattle.loop_body.proofs.Turns.{value_is_one, turn_is_one}
use Rattle.loop_body.proofs.laws.one_turn.Goals as goal

pub returns-clause-value : goal.returns-clause-value
returns-clause-value c = value_is_one (record { tested = c.tests_are_the_table.ensures.widths; functions = c.fun_value_fits.ensures; values = c.value_fits.ensures; few = c.typed_widths_are_few.ensures })

pub returns-clause-turn : goal.returns-clause-turn
returns-clause-turn c = turn_is_one (record { tested = c.tests_are_the_table.ensures.widths; functions = c.fun_value_fits.ensures; values = c.value_fits.ensures; few = c.typed_widths_are_few.ensures })

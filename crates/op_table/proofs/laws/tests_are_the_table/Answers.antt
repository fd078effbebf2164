use Rattle.op_table.proofs.Tables.{names_are_found, widths_are_tested}
use Rattle.op_table.proofs.laws.tests_are_the_table.Goals as goal

pub returns-clause-names : goal.returns-clause-names
returns-clause-names c = names_are_found

pub returns-clause-widths : goal.returns-clause-widths
returns-clause-widths c = widths_are_tested

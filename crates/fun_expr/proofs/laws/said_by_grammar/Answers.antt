use Rattle.fun_expr.proofs.Said.{said_by_grammar, said_as_read}
use Rattle.fun_expr.proofs.laws.said_by_grammar.Goals as goal

pub returns-clause-grammar : goal.returns-clause-grammar
returns-clause-grammar c = said_by_grammar c.tests_are_the_table.ensures.widths c.typed_widths_are_few.ensures

pub returns-clause-read : goal.returns-clause-read
returns-clause-read c = said_as_read c.tests_are_the_table.ensures.widths c.typed_widths_are_few.ensures c.names_differ.ensures.short

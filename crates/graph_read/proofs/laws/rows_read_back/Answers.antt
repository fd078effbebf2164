use Rattle.graph_read.proofs.RowsBack.{row_back}
use Rattle.graph_read.proofs.laws.rows_read_back.Goals as goal

pub returns : goal.returns
returns c = row_back c.tests_are_the_table.ensures.names c.tests_are_the_table.ensures.widths c.said_by_grammar.ensures.grammar

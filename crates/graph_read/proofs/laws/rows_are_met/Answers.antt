use Rattle.graph_read.proofs.AttributeRowsMet.{row_met}
use Rattle.graph_read.proofs.RowsBack.{row_meets}
use Rattle.graph_read.proofs.laws.rows_are_met.Goals as goal

pub returns : goal.returns
returns c component inputs outputs pairs kind read_in read_out = (
  row_met c.tests_are_the_table.ensures.widths c.said_by_grammar.ensures.grammar component inputs outputs pairs kind read_in read_out,
  row_meets c.tests_are_the_table.ensures.names c.tests_are_the_table.ensures.widths c.said_by_grammar.ensures.grammar component inputs outputs pairs kind,
)

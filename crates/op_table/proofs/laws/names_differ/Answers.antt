use Rattle.op_table.proofs.Names.{graph_words_differ, short_words_differ}
use Rattle.op_table.proofs.laws.names_differ.Goals as goal

pub returns-clause-graph : goal.returns-clause-graph
returns-clause-graph c = graph_words_differ

pub returns-clause-short : goal.returns-clause-short
returns-clause-short c = short_words_differ

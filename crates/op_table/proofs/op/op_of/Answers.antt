use Rattle.op_table.specs.Operator.{graph_word}
use Rattle.op_table.specs.Table.{op_named}
use Rattle.op_table.proofs.Names.{found_by_name, none_found, finds_graph_word}
use Rattle.op_table.proofs.op.op_of.Goals as goal

pub returns-clause-named : goal.returns-clause-named
returns-clause-named c = rw c.find_named.ensures (found_by_name graph_word finds_graph_word c.args.word.now)

pub returns-clause-none : goal.returns-clause-none
returns-clause-none c = none_found graph_word c.args.word.now c.find_named.result (rw c.find_named.ensures (found_by_name graph_word finds_graph_word c.args.word.now))

pub returns-clause-table : goal.returns-clause-table
unfolding op_named
returns-clause-table c = c.find_named.ensures

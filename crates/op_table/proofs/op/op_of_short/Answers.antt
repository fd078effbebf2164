use Rattle.op_table.specs.Operator.{op_word}
use Rattle.op_table.proofs.Names.{found_by_name, none_found, finds_op_word}
use Rattle.op_table.proofs.op.op_of_short.Goals as goal

pub returns-clause-named : goal.returns-clause-named
returns-clause-named c = rw c.find_short.ensures (found_by_name op_word finds_op_word c.args.word.now)

pub returns-clause-none : goal.returns-clause-none
returns-clause-none c = none_found op_word c.args.word.now c.find_short.result (rw c.find_short.ensures (found_by_name op_word finds_op_word c.args.word.now))

use Rattle.op_table.proofs.Sums.{sub_undoes_add, add_undoes_sub}
use Rattle.op_table.proofs.laws.sums_come_back.Goals as goal

pub returns-clause-sub : goal.returns-clause-sub
returns-clause-sub c = sub_undoes_add

pub returns-clause-add : goal.returns-clause-add
returns-clause-add c = add_undoes_sub

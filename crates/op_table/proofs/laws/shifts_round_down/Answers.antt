use Rattle.op_table.proofs.Rounding.{ashr_rounds_down, shifted_out}
use Rattle.op_table.proofs.laws.shifts_round_down.Goals as goal

pub returns-clause-rounds_down : goal.returns-clause-rounds_down
returns-clause-rounds_down c = ashr_rounds_down

pub returns-clause-shifted_out : goal.returns-clause-shifted_out
returns-clause-shifted_out c = shifted_out

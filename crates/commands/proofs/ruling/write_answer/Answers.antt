use Rattle.commands.specs.Ruling.{all_written, write_failed}
use Rattle.commands.proofs.ruling.write_answer.Goals as goal

pub returns-in-Ok-clause-writes : goal.returns-in-Ok-clause-writes
returns-in-Ok-clause-writes g c = all_written c.in-Ok.ensures.all_taken

pub returns-in-Err-clause-writes : goal.returns-in-Err-clause-writes
returns-in-Err-clause-writes g c =
    write_failed (record { count = _; cut = c.in-Err.ensures.some_left; took = c.in-Err.ensures.front_taken }) c.in-Err.ensures.fault

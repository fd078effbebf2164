use Rattle.circuits.proofs.Rest.Roots.{root_is_one, ring_has_no_root}
use Rattle.circuits.proofs.one_root.Goals as goal

pub returns-clause-one : goal.returns-clause-one
returns-clause-one c = root_is_one

pub returns-clause-none : goal.returns-clause-none
returns-clause-none c = λ d b shape q is_buffer ring. ring_has_no_root d b shape is_buffer ring q

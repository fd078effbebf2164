use Rattle.circuit_examples.proofs.BufferLeftOut.{other_shape_refused, other_shape_no_part, taken_name_refused}
use Rattle.circuit_examples.proofs.rule_is_refused.Goals as goal

pub returns-clause-shape : goal.returns-clause-shape
returns-clause-shape c = other_shape_refused

pub returns-clause-part : goal.returns-clause-part
returns-clause-part c = λ shape other target apart. other_shape_no_part shape other target apart

pub returns-clause-name : goal.returns-clause-name
returns-clause-name c = taken_name_refused

use Rattle.circuits.proofs.Rest.OneRest.{rest_is_one, rests_without_init}
use Rattle.circuits.proofs.Rest.Found.{graph_rests}
use Rattle.circuits.proofs.one_rest.Goals as goal

pub returns-clause-one : goal.returns-clause-one
returns-clause-one c = rest_is_one

pub returns-clause-without_init : goal.returns-clause-without_init
returns-clause-without_init c = rests_without_init

pub returns-clause-graph : goal.returns-clause-graph
returns-clause-graph c = graph_rests

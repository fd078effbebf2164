use Rattle.lane_laws.proofs.GraphTree.{make}
use Rattle.lane_laws.proofs.TreeGraph.{found}
use Rattle.lane_laws.proofs.listed_nodes_make_a_tree.Goals as goal

pub returns-clause-make : goal.returns-clause-make
returns-clause-make c = make

pub returns-clause-found : goal.returns-clause-found
returns-clause-found c = found

use Rattle.std.proofs.Common.{ap}
use Rattle.circuits.specs.Circuit.{kind_of_body}
use Rattle.subst_engine.proofs.NodeMatching.{node_by_inputs}
use Rattle.subst_engine.proofs.matching.node_matches.Goals as goal

pub returns-in-Some : goal.returns-in-Some
returns-in-Some c =
    let alike = node_by_inputs c.args.g.now c.args.left.now c.is_graph.ensures c.is_graph-2.ensures c.args.id c.in-Some.twin c.args.node.now.name c.args.node.now.kind c.inputs.result
    c.requires.denotes c.in-Some.ensures.0 (ap kind_of_body c.requires.body) c.in-Some.ensures.1 c.inputs.ensures in
    (λ yes. alike.0 (c.inputs_match.ensures.0 yes), λ matches. c.inputs_match.ensures.1 (alike.1 matches))

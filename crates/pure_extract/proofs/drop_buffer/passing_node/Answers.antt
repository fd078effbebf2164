use Rattle.std.proofs.Common.{◌≢◌, sym, ap, ◌∙◌}
use Rattle.std.proofs.lemmas.Bool.{eqb-false}
use Rattle.std.proofs.lemmas.Option.{same_Some}
use Rattle.graph_core.specs.Place.{index_of}
use Rattle.pure_extract.proofs.DropBufferLaws.PassingNode.{has_input, passing}
use Rattle.pure_extract.proofs.drop_buffer.passing_node.Goals as goal

pub source_of-requires-clause-there : goal.source_of-requires-clause-there
source_of-requires-clause-there c = has_input c.args.g.now c.in_ok-id.id c.in_ok-node.node.now c.in_ok-node.ensures c.in_ok-shape.ensures.0

pub returns : goal.returns
returns c =
    let apart : c.source_of.result.node ≢ c.in_ok-id.id = λ e. eqb-false (index_of c.source_of.result.node) (index_of c.in_ok-id.id) (sym c.if-eq.ensures) (ap index_of e) in
    let is_name = same_Some c.in_ok-node.node.now.name c.args.name.now (sym c.in_ok-node.ensures.denotes ∙ c.in_ok-id.ensures) in
    passing c.args.g.now c.in_ok-id.id c.in_ok-node.node.now c.in_ok-node.ensures c.in_ok-shape.ensures.0 c.is_graph.ensures c.args.name.now is_name c.in_ok-shape.shape.now c.in_ok-shape.ensures.1 c.source_of.result c.source_of.ensures apart

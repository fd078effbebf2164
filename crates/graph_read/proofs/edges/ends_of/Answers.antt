use Rattle.std.proofs.Common.{List, codes, subst}
use Rattle.port_types.specs.declared.side.Side.TheVariants.{Ins, Outs}
use Rattle.graph_core.specs.GraphValue.{Denotes}
use Rattle.graph_read.specs.Attributes.{Pair, last_value}
use Rattle.graph_read.specs.GraphSteps.{IsEnd}
use Rattle.graph_read.proofs.Joining.{has_ends}
use Rattle.graph_read.proofs.edges.ends_of.Goals as goal

pub returns : goal.returns
returns c =
    let g = c.args.g.now in
    let edge = c.args.edge.now in
    let source : Denotes g c.in-Some.from edge.source = subst (Denotes g c.in-Some.from) c.bytes.ensures.same c.in-Some.ensures in
    let target : Denotes g c.in-Some-find.to edge.target = subst (Denotes g c.in-Some-find.to) c.bytes-2.ensures.same c.in-Some-find.ensures in
    let from = c.is_graph.ensures.denoted c.in-Some.from edge.source source in
    let to = c.is_graph.ensures.denoted c.in-Some-find.to edge.target target in
    let output = c.in-Some-end_at.ensures edge.source from.0 source from.1 in
    let input = c.in-Some-end_at-2.ensures edge.target to.0 target to.1 in
    has_ends g edge c.in-Some.from c.in-Some-find.to source target from.0 to.0 from.1 to.1 c.in-Some-end_at.source
    (subst (λ (pairs : List Pair). IsEnd Outs edge.source from.0 (last_value (codes "from") pairs) c.in-Some.from c.in-Some-end_at.source) c.as_slice-pairs.ensures output)
    c.in-Some-end_at-2.target
    (subst (λ (pairs : List Pair). IsEnd Ins edge.target to.0 (last_value (codes "to") pairs) c.in-Some-find.to c.in-Some-end_at-2.target) c.as_slice-pairs.ensures input)

use Rattle.std.proofs.Common.{◌≡◌, sym, subst, rules}
use Rattle.subst_engine.specs.Making.{CanMake}
use Rattle.pure_extract.specs.DropBuffer.{entry_name, exit_name}
use Rattle.pure_extract.proofs.DropBufferLaws.Sides.{left_nodes, left_made}
use Rattle.pure_extract.proofs.drop_buffer.left_graph.Goals as goal

pub rule_graph-requires : goal.rule_graph-requires
rule_graph-requires c =
    let node = c.args.node.now in
    let all = left_nodes (entry_name node.name) node.name (exit_name node.name) node.kind c.args.shape.now in
    let nodes : c.in_ok-nodes.nodes.items ≡ all = search rules in
    subst (λ some. CanMake some c.as_slice.result.now) (sym nodes) (subst (CanMake all) (sym c.as_slice.ensures) (left_made node c.args.shape.now c.requires))

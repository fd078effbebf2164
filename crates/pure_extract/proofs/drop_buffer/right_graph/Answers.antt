use Rattle.std.proofs.Common.{◌≡◌, sym, subst, rules}
use Rattle.subst_engine.specs.Making.{CanMake}
use Rattle.pure_extract.specs.DropBuffer.{entry_name, exit_name}
use Rattle.pure_extract.proofs.DropBufferLaws.Sides.{right_nodes, right_made}
use Rattle.pure_extract.proofs.drop_buffer.right_graph.Goals as goal

pub rule_graph-requires : goal.rule_graph-requires
rule_graph-requires c =
    let name = c.args.name.now in
    let all = right_nodes (entry_name name) (exit_name name) c.args.shape.now in
    let nodes : c.in_ok-nodes.nodes.items ≡ all = search rules in
    subst (λ some. CanMake some c.as_slice.result.now) (sym nodes) (subst (CanMake all) (sym c.as_slice.ensures) (right_made name c.args.shape.now c.requires))
